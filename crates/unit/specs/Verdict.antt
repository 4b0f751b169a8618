-- What `check` answers: the first refusal in order. The sizes of all ten tables come first, then the tables
-- by number, each row by row, and each row column by column.
use Rattle.std.specs.Prelude.{ℕ, ◌%◌, Bool, not, List, [], ◌∷◌, length, is_some, None, Option, nat_lt}
use Rattle.std.specs.Bool.{then_some}
use Rattle.tables.specs.Cells.{cell, optional}
use Rattle.tables.specs.First.{◌then◌, first_row}
use Rattle.tables.specs.Parts.{part_of}
use Rattle.unit.specs.Bytes.{Bytes, bytes_at, rows}
use Rattle.unit.specs.Flaws.{number_flaw, optional_flaw, part_flaw, empty_flaw, flag_flaw, kind_flaw, at}
use Rattle.unit.specs.Format.{width, limit, columned, every_table}
use Rattle.unit.specs.Rows.{terminal_of, instruction_of, root_of}
use Rattle.unit.specs.declared.flaws.Flaw.{Flaw}
use Rattle.unit.specs.declared.refusal.Refusal.{Refusal}
use Rattle.unit.specs.declared.refusal.Refusal.TheVariants.{Size}
use Rattle.unit.specs.declared.rows.Terminal.{Terminal}
use Rattle.unit.specs.declared.rows.Terminal.TheVariants as terminal
use Rattle.unit.specs.declared.rows.Instruction.{Instruction}
use Rattle.unit.specs.declared.rows.Instruction.TheVariants as instruction
use Rattle.unit.specs.declared.rows.ManualMemoDependencyRoot.{ManualMemoDependencyRoot}
use Rattle.unit.specs.declared.rows.ManualMemoDependencyRoot.TheVariants.{NamedLocal, Global}
use Rattle.unit.specs.declared.table.Table.{Table}
use Rattle.unit.specs.declared.table.Table.TheVariants.{WordBytes, Words, Identifiers, Places, Functions, Blocks, Phis, Instructions, Declared, Steps}

-- the columns a, b and c of a block; the numbers of blocks are not checked
abbrev pub terminal_flaw : Bytes → List ℕ → Terminal → Option Flaw
terminal_flaw b row terminal.Other = None
terminal_flaw b row (terminal.Branch test consequent fallthrough) = number_flaw b Places test
terminal_flaw b row (terminal.Optional «optional» test fallthrough) = flag_flaw (cell row 5)
terminal_flaw b row (terminal.LogicalOrTernary test) = None
terminal_flaw b row (terminal.Sequence block) = None
terminal_flaw b row (terminal.MaybeThrow continuation) = None

-- the columns a, b and c and the part of an instruction, those that its kind uses
abbrev pub operands_flaw : Bytes → List ℕ → Instruction → Option Flaw
operands_flaw b row (instruction.LoadGlobal name binding) = number_flaw b Words name
operands_flaw b row (instruction.LoadLocal place) = number_flaw b Places place
operands_flaw b row (instruction.DeclareLocal place) = number_flaw b Places place
operands_flaw b row (instruction.DeclareContext place) = number_flaw b Places place
operands_flaw b row (instruction.StoreLocal target value reassign) =
    number_flaw b Places target then number_flaw b Places value then flag_flaw (cell row 5)
operands_flaw b row (instruction.StoreContext target value reassign) =
    number_flaw b Places target then number_flaw b Places value then flag_flaw (cell row 5)
operands_flaw b row (instruction.Destructure value reassign pattern) =
    number_flaw b Places value then flag_flaw (cell row 5) then part_flaw b Places pattern
operands_flaw b row (instruction.PropertyLoad object property) =
    number_flaw b Places object then optional_flaw b Words property
operands_flaw b row (instruction.FunctionExpression function) = number_flaw b Functions function
operands_flaw b row (instruction.StartMemoize memo span declared) = part_flaw b Declared declared
operands_flaw b row (instruction.FinishMemoize memo decl) = number_flaw b Places decl
operands_flaw b row (instruction.ArrayExpression elements) = part_flaw b Places elements
operands_flaw b row (instruction.CallExpression callee operands) =
    number_flaw b Places callee then part_flaw b Places operands then empty_flaw operands
operands_flaw b row (instruction.MethodCall property operands) =
    number_flaw b Places property then part_flaw b Places operands then empty_flaw operands
operands_flaw b row (instruction.Other lvalues operands) = part_flaw b Places lvalues then part_flaw b Places operands

abbrev pub root_flaw : Bytes → ManualMemoDependencyRoot → Option Flaw
root_flaw b (NamedLocal identifier) = number_flaw b Identifiers identifier
root_flaw b (Global name) = number_flaw b Words name

-- a row's columns in order
abbrev pub row_flaw : Bytes → Table → List ℕ → Option Flaw
row_flaw b WordBytes row = None
row_flaw b Words row = part_flaw b WordBytes (part_of row 0)
row_flaw b Identifiers row = flag_flaw (cell row 0) then flag_flaw (cell row 1) then optional_flaw b Words (optional (cell row 2))
row_flaw b Places row = number_flaw b Identifiers (cell row 0) then flag_flaw (cell row 2)
row_flaw b Functions row = part_flaw b Places (part_of row 0) then part_flaw b Blocks (part_of row 2)
row_flaw b Blocks row =
    part_flaw b Phis (part_of row 0) then part_flaw b Instructions (part_of row 2) then kind_flaw 0 5 (cell row 4)
    then terminal_flaw b row (terminal_of row) then part_flaw b Places (part_of row 8)
row_flaw b Phis row = number_flaw b Identifiers (cell row 0) then part_flaw b Places (part_of row 1)
row_flaw b Instructions row =
    kind_flaw 1 15 (cell row 0) then number_flaw b Identifiers (cell row 1) then operands_flaw b row (instruction_of row)
row_flaw b Declared row = flag_flaw (cell row 0) then root_flaw b (root_of row) then part_flaw b Steps (part_of row 2)
row_flaw b Steps row = number_flaw b Words (cell row 0) then flag_flaw (cell row 1)

abbrev pub size_verdict : Bytes → Table → Option Refusal
size_verdict b table =
    then_some (nat_lt 0 (length (bytes_at b table) % width table)) (Size table) then then_some (nat_lt (limit table) (rows b table)) (Size table)

abbrev pub rows_verdict : Bytes → Table → Option Refusal
rows_verdict b table = first_row (at table) (row_flaw b table) (bytes_at b table) (width table)

-- the first of the tables listed that is refused
abbrev pub first_of : (Table → Option Refusal) → List Table → Option Refusal
first_of f [] = None
first_of f (table ∷ tables) = f table then first_of f tables

unfoldable pub verdict : Bytes → Option Refusal
verdict b = first_of (size_verdict b) every_table then first_of (rows_verdict b) columned

abbrev pub passes : Bytes → Bool
passes b = not (is_some (verdict b))
