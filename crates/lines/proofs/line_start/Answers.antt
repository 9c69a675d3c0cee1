-- `from` is where the line begins, and the lines from there on are those that are left.
use Rattle.std.proofs.Common.{◌≡◌, ◌+◌, ◌-◌, suc, drop, refl, ap, ◌∙◌, add-one, arith}
use Rattle.lines.specs.Words.{past, line_of, line_start}
use Rattle.lines.proofs.Lines.{line_next}
use Rattle.lines.proofs.line_start.Goals as goal

pub loop-line-init : goal.loop-line-init
unfolding line_start
loop-line-init c = let z : c.args.k - 0 ≡ c.args.k = omega arith in (refl, ap (line_of c.args.s.now) z, omega arith)

pub loop-line-preserved : goal.loop-line-preserved
unfolding line_start
loop-line-preserved c =
    let s = c.args.s.now in
    let k = c.args.k in
    let l = c.loop-line in
    let n : suc (k - (l._line + 1)) ≡ k - l._line = omega arith in
    let e = c.past-from.ensures.0 in (
      rw add-one (e ∙ ap (past 10 s) l.invariant.0),
      rw e (line_next s l.from (k - (l._line + 1)) ∙ ap (line_of (drop l.from s)) n ∙ l.invariant.1),
      omega arith,
    )

pub returns-clause-s_value : goal.returns-clause-s_value
unfolding line_of
returns-clause-s_value c =
    let l = c.loop-line in
    let z : 0 ≡ c.args.k - l._line = omega arith in
    (ap (line_of (drop l.from c.args.s.now)) z ∙ l.invariant.1, l.invariant.2)
