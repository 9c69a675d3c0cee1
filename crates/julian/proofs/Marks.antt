-- Which month the mark beside a read pair is about: that of the reading which stands for the instant.
-- Assumes nothing.
use Rattle.std.proofs.Common.{◌≡◌, ℕ, ℤ, ap, ◌∙◌}
use Rattle.calendar.specs.Days.{month_of_day}
use Rattle.leap.specs.declared.Table.{Table}
use Rattle.labels.specs.Labels.{Offsets, month_of}
use Rattle.labels.proofs.Admitted.{admitted_to}
use Rattle.labels.proofs.Lengths.{label_falls}
use Rattle.stamp.specs.Scales.{scale_of, offsets_of, most_second}
use Rattle.julian.specs.declared.JulianDate.{JulianDate}
use Rattle.julian.specs.Dates.{day_read}
use Rattle.julian.proofs.Dates.{ReadOn}

pub month_read : (t : Table) (k : ℕ) (p : JulianDate) (x : ℤ) (s : ReadOn t k p x) → month_of s.reading.label ≡ month_of_day (day_read (offsets_of t (scale_of k)) p)
month_read t k p x s =
    let o : Offsets = offsets_of t (scale_of k) in
    let a = admitted_to o (most_second (scale_of k)) s.reading s.reads.is_admitted in
    label_falls s.reading.label a.exists.day_low a.exists.day_high ∙ ap month_of_day s.day_is
