use Rattle.std.proofs.Common.{◌≡◌, None, Some, Ok, Err, Result, sym, refl, rules}
use Rattle.std.specs.Result.{result_err}
use Rattle.std.proofs.lemmas.Result.{err_from_is_err_and}
use Rattle.tables.proofs.Rows.{search_begins, search_ends, search_finds, search_goes_on}
use Rattle.unit.specs.Bytes.{bytes_of}
use Rattle.unit.specs.Verdict.{row_flaw, rows_verdict}
use Rattle.unit.specs.declared.flaws.Flaw.{Flaw}
use Rattle.unit.proofs.table_checks.Tables+ref+slice+u8.check_rows.Goals as goal

pub loop-row-init : goal.loop-row-init
loop-row-init g c = search (rules, search_begins)

pub loop-row-preserved : goal.loop-row-preserved
loop-row-preserved g c =
    let bytes = c.new.ensures in
    let passed : None ≡ row_flaw (bytes_of c.args.self.now) g.R.Record.TABLE c.in-Some.bytes.now = search rules in
    let goes = search_goes_on _ _ _ _ _ _ _ c.loop-row.invariant.searching _ _ _ _ _ _ _ c.in-Some.ensures.steps passed in
    search rules

pub returns-in_err-map_err : goal.returns-in_err-map_err
returns-in_err-map_err g c = go c.check.result refl
  where
    go : (r : Result (Unit {0}) Flaw) → c.check.result ≡ r → result_err c.from_residual.result ≡ rows_verdict (bytes_of c.args.self.now) g.R.Record.TABLE
    go (Ok x) is = let bytes = c.new.ensures in search rules
    go (Err e) is =
        let bytes = c.new.ensures in
        let flaw : Some e ≡ row_flaw (bytes_of c.args.self.now) g.R.Record.TABLE c.in-Some.bytes.now = search rules in
        let found = search_finds _ _ _ _ _ _ _ c.loop-row.invariant.searching _ _ _ _ _ _ _ c.in-Some.ensures.steps e flaw in
        let p = err_from_is_err_and c.from_residual.result c.from_residual.ensures.1 in
        let told = err_from_is_err_and c.map_err.result (rw is at c.map_err.ensures.cases) in
        rw (p.1, p.2, found) (search rules)

pub returns : goal.returns
returns g c = sym (search_ends _ _ _ _ _ _ _ c.loop-row.invariant.searching c.in-None.ensures.steps.0.1.0)
