-- A refusal, or what the bytes of the pairs hold.
use mathlib.Core.Path.{◌≡◌, refl, sym, ap, ◌∙◌}
use native.Mathlib.Omega.{arith}
use lib.ListN.{length, take}
use Rattle.laws.proofs.Branches.{cond_yes, cond_rest}
use Rattle.block.specs.Reading.{read_either}
use Rattle.lines.specs.Pairs.{paired}
use Rattle.lines.proofs.Pairs.{into_front, paired_few}
use Rattle.tablewords.specs.Loading.{loaded_by, load_block}
use Rattle.tablewords.proofs.Loading.{loads_as, hex_none, hex_some}
use Rattle.tablewords.proofs.load_block.Goals as goal

pub returns-in_default : goal.returns-in_default
unfolding load_block
returns-in_default c =
    loads_as (cond_rest _ (hex_none c.args.hex.now (sym c.hex.ensures.0 ∙ c.in_default.is)) refl) (record { says = c.refuse_request.ensures; table = c.empty.ensures })

pub returns : goal.returns
unfolding load_block
returns c =
    let x = c.args.hex.now in
    let g = hex_some x (sym c.hex.ensures.0 ∙ c.in-Some.is) in
    let few = paired_few x in
    let n : c.front-k.result ≡ length (paired x) = c.front-k.ensures.value ∙ omega (arith, g.number, g.room) in
    let v : take c.front-k.result c.hex.new.out ≡ paired x = rw (n, c.hex.ensures.1) (into_front _ x g.room g.pairs) in
    loads_as (cond_yes _ g.hex (ap (loaded_by x) (c.read_either-read.ensures ∙ ap read_either v))) c.loaded_by.ensures
