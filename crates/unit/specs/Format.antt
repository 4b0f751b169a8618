-- The ten tables of a unit: their numbers, how many bytes a row has, and how many rows there may be.
-- Every column is four bytes, so a row of n columns has 4 * n; the word bytes are a table of one-byte rows.
use Rattle.std.specs.Prelude.{ℕ, ◌*◌, List, [], ◌∷◌}
use Rattle.unit.specs.declared.table.Table.{Table}
use Rattle.unit.specs.declared.table.Table.TheVariants.{WordBytes, Words, Identifiers, Places, Functions, Blocks, Phis, Instructions, Declared, Steps}

abbrev pub number : Table → ℕ
number WordBytes = 0
number Words = 1
number Identifiers = 2
number Places = 3
number Functions = 4
number Blocks = 5
number Phis = 6
number Instructions = 7
number Declared = 8
number Steps = 9

abbrev pub width : Table → ℕ
width WordBytes = 1
width Words = 4 * 2
width Identifiers = 4 * 3
width Places = 4 * 3
width Functions = 4 * 4
width Blocks = 4 * 10
width Phis = 4 * 3
width Instructions = 4 * 8
width Declared = 4 * 4
width Steps = 4 * 2

abbrev pub limit : Table → ℕ
limit WordBytes = 32768
limit Words = 1024
limit Identifiers = 2048
limit Places = 16384
limit Functions = 32
limit Blocks = 1024
limit Phis = 1024
limit Instructions = 4096
limit Declared = 1024
limit Steps = 4096

-- the tables in the order of their numbers; the word bytes have no columns to check
abbrev pub columned : List Table
columned = Words ∷ Identifiers ∷ Places ∷ Functions ∷ Blocks ∷ Phis ∷ Instructions ∷ Declared ∷ Steps ∷ []

abbrev pub every_table : List Table
every_table = WordBytes ∷ columned
