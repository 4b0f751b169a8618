-- What the tables of a unit hold: ten lists of bytes, and their rows.
-- A row past the last has no bytes, and is asked of by nobody.
use Rattle.std.specs.Prelude.{ℕ, ◌/◌, List, [], length}
use Rattle.std.specs.Borrow.{Bor}
use Rattle.tables.specs.Cells.{row_of}
use Rattle.unit.specs.Format.{width}
use Rattle.unit.specs.declared.table.Table.{Table}
use Rattle.unit.specs.declared.table.Table.TheVariants.{WordBytes, Words, Identifiers, Places, Functions, Blocks, Phis, Instructions, Declared, Steps}
use Rattle.unit.specs.declared.unit_tables.Tables.{Tables}

abbrev pub Bytes : Type 0
Bytes = Tables (List ℕ)

-- the tables with f of each
abbrev pub map_tables : {S T : Type 0} → (S → T) → Tables S → Tables T
map_tables f t =
    record {
      word_bytes = f t.word_bytes;
      words = f t.words;
      identifiers = f t.identifiers;
      places = f t.places;
      functions = f t.functions;
      blocks = f t.blocks;
      phis = f t.phis;
      instructions = f t.instructions;
      declared = f t.declared;
      steps = f t.steps;
    }

-- what lent tables hold
abbrev pub bytes_of : Tables (Bor (List ℕ)) → Bytes
bytes_of = map_tables (λ bytes. bytes.now)

abbrev pub no_bytes : Bytes
no_bytes =
    record {
      word_bytes = [];
      words = [];
      identifiers = [];
      places = [];
      functions = [];
      blocks = [];
      phis = [];
      instructions = [];
      declared = [];
      steps = [];
    }

abbrev pub bytes_at : Bytes → Table → List ℕ
bytes_at b WordBytes = b.word_bytes
bytes_at b Words = b.words
bytes_at b Identifiers = b.identifiers
bytes_at b Places = b.places
bytes_at b Functions = b.functions
bytes_at b Blocks = b.blocks
bytes_at b Phis = b.phis
bytes_at b Instructions = b.instructions
bytes_at b Declared = b.declared
bytes_at b Steps = b.steps

-- how many whole rows a table has
abbrev pub rows : Bytes → Table → ℕ
rows b table = length (bytes_at b table) / width table

abbrev pub row_at : Bytes → Table → ℕ → List ℕ
row_at b table row = row_of (bytes_at b table) (width table) row
