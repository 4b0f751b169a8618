-- A machine takes steps: from a state it goes on to a next state, or is done, or fails with a fault. At some states there is
-- something to report. What a state, a fault and a report are is left open.
use Rattle.std.specs.Prelude.{Option}

pub data Outcome (S F : Type 0) : Type 0 where
  Next : S → Outcome S F
  Done : Outcome S F
  Failed : F → Outcome S F

pub record Machine (S F R : Type 0) : Type 0 where
  pub next : S → Outcome S F
  pub report : S → Option R
