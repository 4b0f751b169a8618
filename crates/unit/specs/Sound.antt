-- What a unit must be, table by table: whole rows and not too many; in each row every flag 0 or 1, every
-- kind known, and what the row says inside the tables.
use Rattle.std.specs.Prelude.{◌≡◌, ℕ, ◌%◌, ◌<◌, ◌≤◌, List, length, ⊤}
use Rattle.tables.specs.Cells.{cell}
use Rattle.unit.specs.Bytes.{Bytes, bytes_at, rows, row_at}
use Rattle.unit.specs.Format.{width, limit}
use Rattle.unit.specs.Inside.{WordInside, IdentifierInside, PlaceInside, FunctionInside, BlockInside, PhiInside, InstructionInside, DeclaredInside, StepInside}
use Rattle.unit.specs.Rows.{HasKind, word_row_of, identifier_of, place_of, function_of, terminal_of, block_of, phi_of, instruction_of, instruction_row_of, declared_of, step_of}
use Rattle.unit.specs.declared.rows.Terminal.{Terminal}
use Rattle.unit.specs.declared.rows.Terminal.TheVariants as terminal
use Rattle.unit.specs.declared.rows.Instruction.{Instruction}
use Rattle.unit.specs.declared.rows.Instruction.TheVariants as instruction
use Rattle.unit.specs.declared.table.Table.{Table}
use Rattle.unit.specs.declared.table.Table.TheVariants.{WordBytes, Words, Identifiers, Places, Functions, Blocks, Phis, Instructions, Declared, Steps}

abbrev pub IsFlag : ℕ → Type 0
IsFlag cell = cell ≤ 1

-- the column a of a block is a flag where the terminal is an Optional
abbrev pub OptionalFlag : Terminal → ℕ → Type 0
OptionalFlag terminal.Other a = ⊤
OptionalFlag (terminal.Branch test consequent fallthrough) a = ⊤
OptionalFlag (terminal.Optional «optional» test fallthrough) a = IsFlag a
OptionalFlag (terminal.LogicalOrTernary test) a = ⊤
OptionalFlag (terminal.Sequence block) a = ⊤
OptionalFlag (terminal.MaybeThrow continuation) a = ⊤

-- the column c of an instruction is a flag where its kind has Reassign there
abbrev pub ReassignFlag : Instruction → ℕ → Type 0
ReassignFlag (instruction.LoadGlobal name binding) c = ⊤
ReassignFlag (instruction.LoadLocal place) c = ⊤
ReassignFlag (instruction.DeclareLocal place) c = ⊤
ReassignFlag (instruction.DeclareContext place) c = ⊤
ReassignFlag (instruction.StoreLocal target value reassign) c = IsFlag c
ReassignFlag (instruction.StoreContext target value reassign) c = IsFlag c
ReassignFlag (instruction.Destructure value reassign pattern) c = IsFlag c
ReassignFlag (instruction.PropertyLoad object property) c = ⊤
ReassignFlag (instruction.FunctionExpression function) c = ⊤
ReassignFlag (instruction.StartMemoize memo span declared) c = ⊤
ReassignFlag (instruction.FinishMemoize memo decl) c = ⊤
ReassignFlag (instruction.ArrayExpression elements) c = ⊤
ReassignFlag (instruction.CallExpression callee operands) c = ⊤
ReassignFlag (instruction.MethodCall property operands) c = ⊤
ReassignFlag (instruction.Other lvalues operands) c = ⊤

abbrev pub RowSound : Bytes → Table → List ℕ → Type 0
RowSound b WordBytes row = ⊤
RowSound b Words row = WordInside b (word_row_of row)
RowSound b Identifiers row = IsFlag (cell row 0) × IsFlag (cell row 1) × IdentifierInside b (identifier_of row)
RowSound b Places row = PlaceInside b (place_of row) × IsFlag (cell row 2)
RowSound b Functions row = FunctionInside b (function_of row)
RowSound b Blocks row = HasKind Blocks row × OptionalFlag (terminal_of row) (cell row 5) × BlockInside b (block_of row)
RowSound b Phis row = PhiInside b (phi_of row)
RowSound b Instructions row =
    HasKind Instructions row × ReassignFlag (instruction_of row) (cell row 5) × InstructionInside b (instruction_row_of row)
RowSound b Declared row = IsFlag (cell row 0) × DeclaredInside b (declared_of row)
RowSound b Steps row = StepInside b (step_of row) × IsFlag (cell row 1)

-- whole rows, and not too many
abbrev pub Sized : Bytes → Table → Type 0
Sized b table = (length (bytes_at b table) % width table ≡ 0) × (rows b table ≤ limit table)

abbrev pub RowsSound : Bytes → Table → Type 0
RowsSound b table = (row : ℕ) → row < rows b table → RowSound b table (row_at b table row)

pub record Sound (b : Bytes) : Type 0 where
  pub sized : (table : Table) → Sized b table
  pub each : (table : Table) → RowsSound b table
