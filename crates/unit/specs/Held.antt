-- What a checked unit holds: its tables, as lists of bytes.
use Rattle.unit.specs.Bytes.{Bytes, bytes_of}
use Rattle.unit.specs.declared.checked.CheckedUnit.{CheckedUnit}

abbrev pub held : CheckedUnit → Bytes
held u = bytes_of u.tables
