-- Nothing of a unit is refused exactly when it is sound: rule by rule, row by row, table by table.
use Rattle.std.proofs.Common.{◌≡◌, ℕ, ◌+◌, ◌%◌, ◌<◌, ◌≤◌, true, List, [], ◌∷◌, length, IfSome, Some, None, Option, arith}
use Rattle.std.specs.Prelude.{⊤}
use Rattle.tables.specs.Cells.{cell, optional}
use Rattle.tables.specs.First.{◌then◌, row_refusal}
use Rattle.tables.specs.Parts.{part_of}
use Rattle.tables.specs.declared.parts.Part.{Part}
use Rattle.tables.proofs.Passing.{Passes, passes_then, passes_as, passes_always, passes_mapped, passes_le, passes_lt, passes_some, passes_first, none_from_not}
use Rattle.unit.specs.Bytes.{Bytes, bytes_at, rows, row_at}
use Rattle.unit.specs.Flaws.{number_flaw, optional_flaw, part_flaw, empty_flaw, flag_flaw, kind_flaw, at}
use Rattle.unit.specs.Format.{width, limit, columned, every_table}
use Rattle.unit.specs.Inside.{IsRow, IsPart, TerminalInside, OperandsInside, RootInside}
use Rattle.unit.specs.Law.{AcceptedExactly}
use Rattle.unit.specs.Rows.{HasKind, terminal_of, instruction_of, root_of}
use Rattle.unit.specs.Sound.{IsFlag, OptionalFlag, ReassignFlag, Sized, RowSound, RowsSound, Sound}
use Rattle.unit.specs.Verdict.{terminal_flaw, operands_flaw, root_flaw, row_flaw, size_verdict, rows_verdict, first_of, verdict, passes}
use Rattle.unit.specs.declared.refusal.Refusal.{Refusal}
use Rattle.unit.specs.declared.rows.Terminal.{Terminal}
use Rattle.unit.specs.declared.rows.Terminal.TheVariants as terminal
use Rattle.unit.specs.declared.rows.Instruction.{Instruction}
use Rattle.unit.specs.declared.rows.Instruction.TheVariants as instruction
use Rattle.unit.specs.declared.rows.ManualMemoDependencyRoot.{ManualMemoDependencyRoot}
use Rattle.unit.specs.declared.rows.ManualMemoDependencyRoot.TheVariants.{NamedLocal, Global}
use Rattle.unit.specs.declared.table.Table.{Table}
use Rattle.unit.specs.declared.table.Table.TheVariants.{WordBytes, Words, Identifiers, Places, Functions, Blocks, Phis, Instructions, Declared, Steps}

flag : (n : ℕ) → Passes (flag_flaw n) (IsFlag n)
flag n = passes_le 1 n _

kind : (least most n : ℕ) → Passes (kind_flaw least most n) ((least ≤ n) × (n ≤ most))
kind least most n = passes_then _ _ (passes_le n least _) (passes_le most n _)

filled : (part : Part) → Passes (empty_flaw part) (0 < part.count)
filled part = passes_some part.count _

module _ (b : Bytes) where
  number : (of : Table) (n : ℕ) → Passes (number_flaw b of n) (IsRow b of n)
  number of n = passes_lt (rows b of) n _

  part : (of : Table) (p : Part) → Passes (part_flaw b of p) (IsPart b of p)
  part of p = passes_le (rows b of) (p.first + p.count) _

  option : (of : Table) (n : Option ℕ) → Passes (optional_flaw b of n) (IfSome n (IsRow b of))
  option of None = passes_always
  option of (Some n) = number of n

  root : (r : ManualMemoDependencyRoot) → Passes (root_flaw b r) (RootInside b r)
  root (NamedLocal identifier) = number Identifiers identifier
  root (Global name) = number Words name

  -- a rule that asks nothing beside one that asks P
  unasked : {R P : Type 0} {o : Option R} → Passes o P → Passes o (⊤ × P)
  unasked p = passes_as p (λ h. (tt, h)) (λ h. h.1)

  columns_a_b_c : (row : List ℕ) (t : Terminal) → Passes (terminal_flaw b row t) (OptionalFlag t (cell row 5) × TerminalInside b t)
  columns_a_b_c row terminal.Other = unasked passes_always
  columns_a_b_c row (terminal.Branch test consequent fallthrough) = unasked (number Places test)
  columns_a_b_c row (terminal.Optional «optional» test fallthrough) = passes_as (flag (cell row 5)) (λ h. (h, tt)) (λ h. h.0)
  columns_a_b_c row (terminal.LogicalOrTernary test) = unasked passes_always
  columns_a_b_c row (terminal.Sequence block) = unasked passes_always
  columns_a_b_c row (terminal.MaybeThrow continuation) = unasked passes_always

  stored : (target value reassign : ℕ)
      → Passes (number_flaw b Places target then number_flaw b Places value then flag_flaw reassign) (IsFlag reassign × (IsRow b Places target × IsRow b Places value))
  stored target value reassign =
      passes_as (passes_then _ _ (number Places target) (passes_then _ _ (number Places value) (flag reassign)))
      (λ h. (h.1.1, (h.0, h.1.0))) (λ h. (h.1.0, (h.1.1, h.0)))

  called : (place : ℕ) (operands : Part)
      → Passes (number_flaw b Places place then part_flaw b Places operands then empty_flaw operands) (⊤ × (IsRow b Places place × IsPart b Places operands × (0 < operands.count)))
  called place operands =
      unasked (passes_as (passes_then _ _ (number Places place) (passes_then _ _ (part Places operands) (filled operands)))
      (λ h. (h.0, h.1.0, h.1.1)) (λ h. (h.0, (h.1, h.2))))

  operands_pass : (row : List ℕ) (i : Instruction)
      → Passes (operands_flaw b row i) (ReassignFlag i (cell row 5) × OperandsInside b i)
  operands_pass row (instruction.LoadGlobal name binding) = unasked (number Words name)
  operands_pass row (instruction.LoadLocal place) = unasked (number Places place)
  operands_pass row (instruction.DeclareLocal place) = unasked (number Places place)
  operands_pass row (instruction.DeclareContext place) = unasked (number Places place)
  operands_pass row (instruction.StoreLocal target value reassign) = stored target value (cell row 5)
  operands_pass row (instruction.StoreContext target value reassign) = stored target value (cell row 5)
  operands_pass row (instruction.Destructure value reassign pattern) =
      passes_as (passes_then _ _ (number Places value) (passes_then _ _ (flag (cell row 5)) (part Places pattern)))
      (λ h. (h.1.0, (h.0, h.1.1))) (λ h. (h.1.0, (h.0, h.1.1)))
  operands_pass row (instruction.PropertyLoad object property) = unasked (passes_then _ _ (number Places object) (option Words property))
  operands_pass row (instruction.FunctionExpression function) = unasked (number Functions function)
  operands_pass row (instruction.StartMemoize memo span declared) = unasked (part Declared declared)
  operands_pass row (instruction.FinishMemoize memo decl) = unasked (number Places decl)
  operands_pass row (instruction.ArrayExpression elements) = unasked (part Places elements)
  operands_pass row (instruction.CallExpression callee operands) = called callee operands
  operands_pass row (instruction.MethodCall property operands) = called property operands
  operands_pass row (instruction.Other lvalues operands) = unasked (passes_then _ _ (part Places lvalues) (part Places operands))

  pub row_passes : (table : Table) (row : List ℕ) → Passes (row_flaw b table row) (RowSound b table row)
  row_passes WordBytes row = passes_always
  row_passes Words row = part WordBytes (part_of row 0)
  row_passes Identifiers row =
      passes_as (passes_then _ _ (flag (cell row 0)) (passes_then _ _ (flag (cell row 1)) (option Words (optional (cell row 2)))))
      (λ h. (h.0, h.1.0, h.1.1)) (λ h. (h.0, (h.1, h.2)))
  row_passes Places row = passes_then _ _ (number Identifiers (cell row 0)) (flag (cell row 2))
  row_passes Functions row = passes_then _ _ (part Places (part_of row 0)) (part Blocks (part_of row 2))
  row_passes Blocks row =
      passes_as
      (passes_then _ _ (part Phis (part_of row 0)) (passes_then _ _ (part Instructions (part_of row 2)) (passes_then _ _ (kind 0 5 (cell row 4))
      (passes_then _ _ (columns_a_b_c row (terminal_of row)) (part Places (part_of row 8))))))
      (λ h. (h.1.1.0.1, h.1.1.1.0.0, (h.0, h.1.0, h.1.1.1.0.1, h.1.1.1.1)))
      (λ h. (h.2.0, (h.2.1, ((omega arith, h.0), ((h.1, h.2.2), h.2.3)))))
  row_passes Phis row = passes_then _ _ (number Identifiers (cell row 0)) (part Places (part_of row 1))
  row_passes Instructions row =
      passes_as (passes_then _ _ (kind 1 15 (cell row 0)) (passes_then _ _ (number Identifiers (cell row 1)) (operands_pass row (instruction_of row))))
      (λ h. (h.0, h.1.1.0, (h.1.0, h.1.1.1))) (λ h. (h.0, (h.2.0, (h.1, h.2.1))))
  row_passes Declared row = passes_then _ _ (flag (cell row 0)) (passes_then _ _ (root (root_of row)) (part Steps (part_of row 2)))
  row_passes Steps row = passes_then _ _ (number Words (cell row 0)) (flag (cell row 1))

  pub size_passes : (table : Table) → Passes (size_verdict b table) (Sized b table)
  size_passes table =
      passes_then _ _ (passes_as (passes_le 0 (length (bytes_at b table) % width table) _) (λ h. omega arith) (λ h. omega arith))
      (passes_le (limit table) (rows b table) _)

  pub rows_pass : (table : Table) → Passes (rows_verdict b table) (RowsSound b table)
  rows_pass table =
      passes_first (row_refusal (at table) (row_flaw b table) (bytes_at b table) (width table)) (λ row. RowSound b table (row_at b table row))
      (λ row. passes_mapped (at table row) _ (row_passes table (row_at b table row))) (rows b table)

-- what holds of each table of a list
Each : (Table → Type 0) → List Table → Type 0
Each P [] = ⊤
Each P (table ∷ tables) = P table × Each P tables

each_passes : (f : Table → Option Refusal) (P : Table → Type 0) → ((table : Table) → Passes (f table) (P table))
    → (tables : List Table) → Passes (first_of f tables) (Each P tables)
unfolding Each
each_passes f P h [] = passes_always
each_passes f P h (table ∷ tables) = passes_then _ _ (h table) (each_passes f P h tables)

of_each : (P : Table → Type 0) → ((table : Table) → P table) → (tables : List Table) → Each P tables
unfolding Each
of_each P h [] = tt
of_each P h (table ∷ tables) = (h table, of_each P h tables)

-- the word bytes stand alone, the others in the order of their numbers
at_each : (P : Table → Type 0) → P WordBytes → Each P columned → (table : Table) → P table
unfolding Each
at_each P w e WordBytes = w
at_each P w e Words = e.0
at_each P w e Identifiers = e.1.0
at_each P w e Places = e.1.1.0
at_each P w e Functions = e.1.1.1.0
at_each P w e Blocks = e.1.1.1.1.0
at_each P w e Phis = e.1.1.1.1.1.0
at_each P w e Instructions = e.1.1.1.1.1.1.0
at_each P w e Declared = e.1.1.1.1.1.1.1.0
at_each P w e Steps = e.1.1.1.1.1.1.1.1.0

pub sizes_pass : (b : Bytes) → Passes (first_of (size_verdict b) every_table) ((table : Table) → Sized b table)
unfolding Each
sizes_pass b =
    passes_as (each_passes (size_verdict b) (Sized b) (size_passes b) every_table)
    (λ h. at_each (Sized b) h.0 h.1) (λ s. of_each (Sized b) s every_table)

contents_pass : (b : Bytes) → Passes (first_of (rows_verdict b) columned) ((table : Table) → RowsSound b table)
contents_pass b =
    passes_as (each_passes (rows_verdict b) (RowsSound b) (rows_pass b) columned)
    (at_each (RowsSound b) (λ row l. tt)) (λ s. of_each (RowsSound b) s columned)

pub accepted_exactly : (b : Bytes) → AcceptedExactly b
unfolding verdict
accepted_exactly b =
    passes_as (passes_then _ _ (sizes_pass b) (contents_pass b)) (λ h. record { sized = h.0; each = h.1 }) (λ s. (s.sized, s.each))

-- what the type of a checked unit keeps
pub sound : (b : Bytes) → passes b ≡ true → Sound b
sound b h = (accepted_exactly b).0 (none_from_not (verdict b) h)

-- no table has more rows than a column can number
pub few_rows : (b : Bytes) → passes b ≡ true → (table : Table) → rows b table ≤ 32768
few_rows b h table = most table ((sound b h).sized table).1
  where
    most : (table : Table) → rows b table ≤ limit table → rows b table ≤ 32768
    most WordBytes l = l
    most Words l = omega arith
    most Identifiers l = omega arith
    most Places l = omega arith
    most Functions l = omega arith
    most Blocks l = omega arith
    most Phis l = omega arith
    most Instructions l = omega arith
    most Declared l = omega arith
    most Steps l = omega arith

-- a sound row has a kind that there is
pub has_kind : (b : Bytes) (table : Table) (row : List ℕ) → RowSound b table row → HasKind table row
has_kind b WordBytes row s = tt
has_kind b Words row s = tt
has_kind b Identifiers row s = tt
has_kind b Places row s = tt
has_kind b Functions row s = tt
has_kind b Blocks row s = s.0
has_kind b Phis row s = tt
has_kind b Instructions row s = s.0
has_kind b Declared row s = tt
has_kind b Steps row s = tt
