-- Guessed and compared.
use Prim.Native.Nat.{ℕ, ◌+◌, ◌-◌, ◌*◌, ◌/◌}
use mathlib.Core.Path.{◌≡◌, sym, ◌∙◌}
use mathlib.Core.Bool.{true}
use Rattle.cards.specs.Card.{card_date}
use Rattle.cards.specs.Reading.{month_in}
use Rattle.cards.proofs.Fields.{three, month_is_lem, early, late, date_is}
use Rattle.cards.proofs.date_in.Goals as goal
use Rattle.cards.proofs.date_in.Goals.{After-digit_at-3, After-same}

abbrev day : ℕ → ℕ → ℕ → ℕ
day a b d = (a * 10 + b) * 10 + d

abbrev month : ℕ → ℕ → ℕ → ℕ → ℕ
month year a b d = 12 * (year - 1972) + day a b d / 30

-- the month, guessed
module _ (c : After-digit_at-3) where
  guessed : month c.year_in-year.result c.digit_at.result c.digit_at-2.result c.digit_at-3.result ≡ month_in c.args.s.now
  guessed = month_is_lem c.args.s.now c.year_in-year.ensures.0 (three c.args.s.now c.digit_at.ensures.0 c.digit_at-2.ensures.0 c.digit_at-3.ensures.0)

pub returns-then-year-lt1972 : goal.returns-then-year-lt1972
returns-then-year-lt1972 c = early _ c.year_in-year.ensures.0 c.if-year-lt1972.true

pub returns-then-month-gt-LAST_MONTH : goal.returns-then-month-gt-LAST_MONTH
returns-then-month-gt-LAST_MONTH c = late _ c.year_in-year.ensures.0 c.if-year-lt1972.false (guessed (goal.at.returns-then-month-gt-LAST_MONTH c).After-digit_at-3) c.if-month-gt-LAST_MONTH.true

pub returns : goal.returns
returns c =
    let s = c.args.s.now in
    let g = guessed (goal.at.returns c).After-digit_at-3 in
    let f : c.same.result ≡ true → card_date (month c.year_in-year.result c.digit_at.result c.digit_at-2.result c.digit_at-3.result) ≡ s = λ e. sym c.date_text.ensures ∙ c.same.ensures.0 e in
    c.then_some.ensures ∙ date_is s c.year_in-year.ensures.0 c.if-year-lt1972.false g c.if-month-gt-LAST_MONTH.false f (λ e. c.same.ensures.1 (c.date_text.ensures ∙ e))
