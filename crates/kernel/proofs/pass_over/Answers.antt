-- What leaves the reader where it stands is passed over.
use mathlib.Core.Path.{◌≡◌}
use mathlib.Core.Logic.{inl, inr}
use native.Mathlib.Omega.{arith}
use Rattle.kernel.proofs.Going.{text_passed, only_blanks, text_blanks, fresh_blanks, gap_blanks}
use Rattle.kernel.proofs.pass_over.Goals as goal

-- a line of text that is none of `\begindata`
pub returns-in-Text-eq16 : goal.returns-in-Text-eq16
returns-in-Text-eq16 c =
    let u = c.until.ensures in
    let e : c.in-Text-eq16.field-0 ≡ 16 = omega arith in
    rw (c.in-Text-eq16.is, e) (text_passed u.value u.upper_bound.1 (u.upper_bound.0 c.requires))

-- blanks at a line's start
pub returns-in-Text-eq0 : goal.returns-in-Text-eq0
returns-in-Text-eq0 c =
    let e : c.in-Text-eq0.field-0 ≡ 0 = omega arith in
    rw (c.in-Text-eq0.is, e) (text_blanks (only_blanks c.requires c.past_blanks.ensures.value))

-- and in data
pub returns-in-Fresh : goal.returns-in-Fresh
returns-in-Fresh c =
    let b = only_blanks c.requires c.past_blanks-in-Fresh.ensures.value in
    elim c.in-Fresh.is [ inl e ↦ rw e (fresh_blanks b) | inr e ↦ rw e (gap_blanks b) ]
