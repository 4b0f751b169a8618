-- A word is some bytes of a table in a row. It means something only in a table in which it lies.
use Rattle.std.specs.Prelude.{ℕ, ◌+◌, ◌≤◌, List, length, take, drop}
use Rattle.first_wins.specs.declared.words.Word.{Word}

abbrev pub Lies : List ℕ → Word → Type 0
Lies bytes word = word.first + word.count ≤ length bytes

abbrev pub word_of : List ℕ → Word → List ℕ
word_of bytes word = take word.count (drop word.first bytes)
