-- What a row of each table says, by its cells. For any row at all there is something said: an unknown kind reads as Other
-- and a flag over 1 as false. The check refuses both, so that nothing is read of them.
use Rattle.std.specs.Prelude.{ℕ, ◌≤◌, ⊤, if◌then◌else◌, List, take, drop, ◌==◌}
use Rattle.tables.specs.Cells.{cell, flag_at, optional}
use Rattle.tables.specs.Parts.{part_of}
use Rattle.unit.specs.declared.rows.Word.{Word}
use Rattle.unit.specs.declared.rows.Identifier.{Identifier}
use Rattle.unit.specs.declared.rows.Place.{Place}
use Rattle.unit.specs.declared.rows.Function.{Function}
use Rattle.unit.specs.declared.rows.BasicBlock.{BasicBlock}
use Rattle.unit.specs.declared.rows.Terminal.{Terminal}
use Rattle.unit.specs.declared.rows.Terminal.TheVariants as terminal
use Rattle.unit.specs.declared.rows.Phi.{Phi}
use Rattle.unit.specs.declared.rows.InstructionRow.{InstructionRow}
use Rattle.unit.specs.declared.rows.Instruction.{Instruction}
use Rattle.unit.specs.declared.rows.Instruction.TheVariants as instruction
use Rattle.unit.specs.declared.rows.ManualMemoDependencyRoot.{ManualMemoDependencyRoot}
use Rattle.unit.specs.declared.rows.ManualMemoDependencyRoot.TheVariants.{NamedLocal, Global}
use Rattle.unit.specs.declared.rows.ManualMemoDependency.{ManualMemoDependency}
use Rattle.unit.specs.declared.rows.Step.{Step}
use Rattle.unit.specs.declared.table.Table.{Table}
use Rattle.unit.specs.declared.table.Table.TheVariants.{WordBytes, Words, Identifiers, Places, Functions, Blocks, Phis, Instructions, Declared, Steps}

-- a word's bytes among the word bytes
abbrev pub word_of : List ℕ → List ℕ → List ℕ
word_of word_bytes row = take (cell row 1) (drop (cell row 0) word_bytes)

-- the kind of a row is one that there is; only blocks and instructions have kinds
abbrev pub HasKind : Table → List ℕ → Type 0
HasKind WordBytes row = ⊤
HasKind Words row = ⊤
HasKind Identifiers row = ⊤
HasKind Places row = ⊤
HasKind Functions row = ⊤
HasKind Blocks row = cell row 4 ≤ 5
HasKind Phis row = ⊤
HasKind Instructions row = (1 ≤ cell row 0) × (cell row 0 ≤ 15)
HasKind Declared row = ⊤
HasKind Steps row = ⊤

abbrev pub word_row_of : List ℕ → Word
word_row_of row = record { bytes = part_of row 0 }

abbrev pub identifier_of : List ℕ → Identifier
identifier_of row = record { named = flag_at row 0; use_ref = flag_at row 1; shape = optional (cell row 2) }

abbrev pub place_of : List ℕ → Place
place_of row = record { identifier = cell row 0; span = optional (cell row 1); spread = flag_at row 2 }

abbrev pub function_of : List ℕ → Function
function_of row = record { params = part_of row 0; blocks = part_of row 2 }

abbrev pub terminal_of : List ℕ → Terminal
terminal_of row =
    if cell row 4 == 1 then terminal.Branch (cell row 5) (cell row 6) (cell row 7)
    else if cell row 4 == 2 then terminal.Optional (flag_at row 5) (cell row 6) (cell row 7)
    else if cell row 4 == 3 then terminal.LogicalOrTernary (cell row 6)
    else if cell row 4 == 4 then terminal.Sequence (cell row 6)
    else if cell row 4 == 5 then terminal.MaybeThrow (cell row 6)
    else terminal.Other

abbrev pub block_of : List ℕ → BasicBlock
block_of row =
    record { phis = part_of row 0; instructions = part_of row 2; terminal = terminal_of row; operands = part_of row 8 }

abbrev pub phi_of : List ℕ → Phi
phi_of row = record { identifier = cell row 0; operands = part_of row 1 }

-- the columns are the kind, the result, the span, a, b, c, and a part
abbrev pub instruction_of : List ℕ → Instruction
instruction_of row =
    if cell row 0 == 1 then instruction.LoadGlobal (cell row 3) (cell row 4)
    else if cell row 0 == 2 then instruction.LoadLocal (cell row 3)
    else if cell row 0 == 3 then instruction.DeclareLocal (cell row 3)
    else if cell row 0 == 4 then instruction.DeclareContext (cell row 3)
    else if cell row 0 == 5 then instruction.StoreLocal (cell row 3) (cell row 4) (flag_at row 5)
    else if cell row 0 == 6 then instruction.StoreContext (cell row 3) (cell row 4) (flag_at row 5)
    else if cell row 0 == 7 then instruction.Destructure (cell row 4) (flag_at row 5) (part_of row 6)
    else if cell row 0 == 8 then instruction.PropertyLoad (cell row 3) (optional (cell row 4))
    else if cell row 0 == 9 then instruction.FunctionExpression (cell row 3)
    else if cell row 0 == 10 then instruction.StartMemoize (cell row 3) (optional (cell row 5)) (part_of row 6)
    else if cell row 0 == 11 then instruction.FinishMemoize (cell row 3) (cell row 4)
    else if cell row 0 == 12 then instruction.ArrayExpression (part_of row 6)
    else if cell row 0 == 13 then instruction.CallExpression (cell row 3) (part_of row 6)
    else if cell row 0 == 14 then instruction.MethodCall (cell row 3) (part_of row 6)
    else instruction.Other (part_of row 4) (part_of row 6)

abbrev pub instruction_row_of : List ℕ → InstructionRow
instruction_row_of row =
    record { result = cell row 1; span = optional (cell row 2); instruction = instruction_of row }

abbrev pub root_of : List ℕ → ManualMemoDependencyRoot
root_of row = if flag_at row 0 then Global (cell row 1) else NamedLocal (cell row 1)

abbrev pub declared_of : List ℕ → ManualMemoDependency
declared_of row = record { root = root_of row; path = part_of row 2 }

abbrev pub step_of : List ℕ → Step
step_of row = record { property = cell row 0; optional = flag_at row 1 }
