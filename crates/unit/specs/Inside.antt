-- What it says that a row as read lies inside the tables: every number is a row of its table, every part
-- lies inside its table, and a call has operands.
use Rattle.std.specs.Prelude.{ℕ, ◌<◌, IfSome, ⊤}
use Rattle.tables.specs.Parts.{PartInside}
use Rattle.tables.specs.declared.parts.Part.{Part}
use Rattle.unit.specs.Bytes.{Bytes, rows}
use Rattle.unit.specs.declared.rows.Word.{Word}
use Rattle.unit.specs.declared.rows.Identifier.{Identifier}
use Rattle.unit.specs.declared.rows.Place.{Place}
use Rattle.unit.specs.declared.rows.Function.{Function}
use Rattle.unit.specs.declared.rows.BasicBlock.{BasicBlock}
use Rattle.unit.specs.declared.rows.Terminal.{Terminal}
use Rattle.unit.specs.declared.rows.Terminal.TheVariants as terminal
use Rattle.unit.specs.declared.rows.Phi.{Phi}
use Rattle.unit.specs.declared.rows.InstructionRow.{InstructionRow}
use Rattle.unit.specs.declared.rows.Instruction.{Instruction}
use Rattle.unit.specs.declared.rows.Instruction.TheVariants as instruction
use Rattle.unit.specs.declared.rows.ManualMemoDependencyRoot.{ManualMemoDependencyRoot}
use Rattle.unit.specs.declared.rows.ManualMemoDependencyRoot.TheVariants.{NamedLocal, Global}
use Rattle.unit.specs.declared.rows.ManualMemoDependency.{ManualMemoDependency}
use Rattle.unit.specs.declared.rows.Step.{Step}
use Rattle.unit.specs.declared.table.Table.{Table}
use Rattle.unit.specs.declared.table.Table.TheVariants.{WordBytes, Words, Identifiers, Places, Functions, Blocks, Phis, Instructions, Declared, Steps}

abbrev pub IsRow : Bytes → Table → ℕ → Type 0
IsRow b table number = number < rows b table

abbrev pub IsPart : Bytes → Table → Part → Type 0
IsPart b table part = PartInside (rows b table) part

abbrev pub WordInside : Bytes → Word → Type 0
WordInside b word = IsPart b WordBytes word.bytes

abbrev pub IdentifierInside : Bytes → Identifier → Type 0
IdentifierInside b identifier = IfSome identifier.shape (IsRow b Words)

abbrev pub PlaceInside : Bytes → Place → Type 0
PlaceInside b place = IsRow b Identifiers place.identifier

abbrev pub FunctionInside : Bytes → Function → Type 0
FunctionInside b f = IsPart b Places f.params × IsPart b Blocks f.blocks

abbrev pub TerminalInside : Bytes → Terminal → Type 0
TerminalInside b terminal.Other = ⊤
TerminalInside b (terminal.Branch test consequent fallthrough) = IsRow b Places test
TerminalInside b (terminal.Optional «optional» test fallthrough) = ⊤
TerminalInside b (terminal.LogicalOrTernary test) = ⊤
TerminalInside b (terminal.Sequence block) = ⊤
TerminalInside b (terminal.MaybeThrow continuation) = ⊤

abbrev pub BlockInside : Bytes → BasicBlock → Type 0
BlockInside b block =
    IsPart b Phis block.phis × IsPart b Instructions block.instructions
    × TerminalInside b block.terminal × IsPart b Places block.operands

abbrev pub PhiInside : Bytes → Phi → Type 0
PhiInside b phi = IsRow b Identifiers phi.identifier × IsPart b Places phi.operands

abbrev pub OperandsInside : Bytes → Instruction → Type 0
OperandsInside b (instruction.LoadGlobal name binding) = IsRow b Words name
OperandsInside b (instruction.LoadLocal place) = IsRow b Places place
OperandsInside b (instruction.DeclareLocal place) = IsRow b Places place
OperandsInside b (instruction.DeclareContext place) = IsRow b Places place
OperandsInside b (instruction.StoreLocal target value reassign) = IsRow b Places target × IsRow b Places value
OperandsInside b (instruction.StoreContext target value reassign) = IsRow b Places target × IsRow b Places value
OperandsInside b (instruction.Destructure value reassign pattern) = IsRow b Places value × IsPart b Places pattern
OperandsInside b (instruction.PropertyLoad object property) =
    IsRow b Places object × IfSome property (IsRow b Words)
OperandsInside b (instruction.FunctionExpression function) = IsRow b Functions function
OperandsInside b (instruction.StartMemoize memo span declared) = IsPart b Declared declared
OperandsInside b (instruction.FinishMemoize memo decl) = IsRow b Places decl
OperandsInside b (instruction.ArrayExpression elements) = IsPart b Places elements
OperandsInside b (instruction.CallExpression callee operands) =
    IsRow b Places callee × IsPart b Places operands × (0 < operands.count)
OperandsInside b (instruction.MethodCall property operands) =
    IsRow b Places property × IsPart b Places operands × (0 < operands.count)
OperandsInside b (instruction.Other lvalues operands) = IsPart b Places lvalues × IsPart b Places operands

abbrev pub InstructionInside : Bytes → InstructionRow → Type 0
InstructionInside b row = IsRow b Identifiers row.result × OperandsInside b row.instruction

abbrev pub RootInside : Bytes → ManualMemoDependencyRoot → Type 0
RootInside b (NamedLocal identifier) = IsRow b Identifiers identifier
RootInside b (Global name) = IsRow b Words name

abbrev pub DeclaredInside : Bytes → ManualMemoDependency → Type 0
DeclaredInside b dependency = RootInside b dependency.root × IsPart b Steps dependency.path

abbrev pub StepInside : Bytes → Step → Type 0
StepInside b step = IsRow b Words step.property
