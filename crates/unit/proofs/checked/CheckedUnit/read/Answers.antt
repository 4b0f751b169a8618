use Rattle.std.proofs.Common.{rules}
use Rattle.unit.specs.Bytes.{row_at}
use Rattle.unit.specs.Held.{held}
use Rattle.unit.specs.Rows.{HasKind}
use Rattle.unit.specs.Sound.{RowSound}
use Rattle.unit.proofs.Exact.{has_kind, sound}
use Rattle.unit.proofs.checked.CheckedUnit.read.Goals as goal

pub decode-requires : goal.decode-requires
decode-requires g c =
    let u = c.args.self.now in
    let table = g.R.Record.TABLE in
    let kind : HasKind table (row_at (held u) table c.args.row) = has_kind (held u) table _ ((sound (held u) u.sound).each table c.args.row c.requires) in
    search rules

pub returns-clause-inside : goal.returns-clause-inside
returns-clause-inside g c =
    let u = c.args.self.now in
    let table = g.R.Record.TABLE in
    let row : RowSound (held u) table (row_at (held u) table c.args.row) = (sound (held u) u.sound).each table c.args.row c.requires in
    let inside = g.met.R.Record.sound_inside (held u) _ row in
    search rules
