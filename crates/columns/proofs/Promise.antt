-- Lines and plain decimals are as promised.
-- Assumes nothing.
use mathlib.Core.Path.{sym, ap, ◌∙◌}
use Rattle.columns.specs.Decimals.{whole_of}
use Rattle.columns.specs.Promise.{Columns}
use Rattle.columns.proofs.Lines.{lines}
use Rattle.columns.proofs.Wholes.{whole_is, whole_was}
use Rattle.columns.proofs.Steps.{too_long}
use Rattle.columns.proofs.Decimals.{found_exactly}

pub columns : Columns
columns = record {
  lines = lines;
  decimals = record {
    found_exactly = found_exactly;
    none_in_more = λ s h. sym (too_long s h);
    whole_exactly = λ number places k. (whole_was number places k, λ e. ap (λ n. whole_of n places) e ∙ whole_is k places);
  };
}
