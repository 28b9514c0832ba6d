use Rattle.std.proofs.Common.{◌+◌, ◌<◌, length, get_or, vec_items, vec_len, sym, ◌∙◌, subst, arith}
use Rattle.std.proofs.lemmas.List.{length-map}
use Rattle.running.specs.Table.{dues}
use Rattle.running.proofs.Turns.{has_at}
use Rattle.running.proofs.Marking.{GivenFirst, given_more}
use Rattle.running.proofs.table.Table.mark_all.Goals as goal

pub mark-requires : goal.mark-requires
mark-requires c =
    let inside : get_or c.args.list.now c.loop-v.v-index 0 < vec_len c.args.self.now.entries = c.requires _ (has_at c.args.list.now c.loop-v.v-index c.loop-v-test.true) in
    omega (arith, c.loop-v.invariant.2)

pub loop-v-preserved : goal.loop-v-preserved
loop-v-preserved c =
    let inside : get_or c.args.list.now c.loop-v.v-index 0 < vec_len c.args.self.now.entries = c.requires _ (has_at c.args.list.now c.loop-v.v-index c.loop-v-test.true) in
    let long : get_or c.args.list.now c.loop-v.v-index 0 < length (dues c.loop-v.self) =
    omega (arith, c.loop-v.invariant.2, c.loop-v.self.entries.ok.0, length-map (vec_items c.loop-v.self.entries) (λ e. e.due)) in (
      c.mark.ensures.seen ∙ c.loop-v.invariant.0,
      subst (λ ds. GivenFirst (dues c.args.self.now) c.args.list.now c.args.due (c.loop-v.v-index + 1) ds) (sym c.mark.ensures.dues)
          (given_more (dues c.args.self.now) c.args.list.now c.args.due (dues c.loop-v.self) c.loop-v.v-index c.loop-v-test.true long c.loop-v.invariant.1),
      c.mark.ensures.size.0 ∙ c.loop-v.invariant.2,
      c.mark.ensures.size.1 ∙ c.loop-v.invariant.3,
    )
