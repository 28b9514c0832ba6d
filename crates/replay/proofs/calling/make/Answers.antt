use Rattle.std.proofs.Common.{refl, ap, rules}
use Rattle.routing.specs.Calls.{numbered, done}
use Rattle.replay.specs.Making.{call_of}
use Rattle.replay.proofs.Makings.{asks_none, edit_made, mapped}
use Rattle.replay.proofs.calling.make.Goals as goal

pub returns-in-Lay-clause-makes : goal.returns-in-Lay-clause-makes
returns-in-Lay-clause-makes g c =
    edit_made (ap (call_of c.args.book.now.number) c.in-Lay.is) (mapped _ (λ t. numbered t) c.lay.result c.map.result (λ a x p. search rules) c.map.ensures.cases) refl c.lay.ensures.serves.does

pub returns-in-Reprice-clause-makes : goal.returns-in-Reprice-clause-makes
returns-in-Reprice-clause-makes g c =
    edit_made (ap (call_of c.args.book.now.number) c.in-Reprice.is) (mapped _ (λ _. done) c.reprice.result c.map-in-Reprice.result (λ a x p. search rules) c.map-in-Reprice.ensures.cases) refl c.reprice.ensures.serves.does

pub returns-in-Bar-clause-makes : goal.returns-in-Bar-clause-makes
returns-in-Bar-clause-makes g c =
    edit_made (ap (call_of c.args.book.now.number) c.in-Bar.is) (mapped _ (λ _. done) c.bar.result c.map-in-Bar.result (λ a x p. search rules) c.map-in-Bar.ensures.cases) refl c.bar.ensures.serves.does

pub returns-in-Unbar-clause-makes : goal.returns-in-Unbar-clause-makes
returns-in-Unbar-clause-makes g c =
    edit_made (ap (call_of c.args.book.now.number) c.in-Unbar.is) (mapped _ (λ _. done) c.unbar.result c.map-in-Unbar.result (λ a x p. search rules) c.map-in-Unbar.ensures.cases) refl c.unbar.ensures.serves.does

pub returns-in-Begin-clause-makes : goal.returns-in-Begin-clause-makes
returns-in-Begin-clause-makes g c = asks_none (ap (call_of c.args.book.now.number) c.in-Begin.is) refl c.begin.ensures.makes

pub returns-in-Finish-clause-makes : goal.returns-in-Finish-clause-makes
returns-in-Finish-clause-makes g c = asks_none (ap (call_of c.args.book.now.number) c.in-Finish.is) refl c.finish.ensures.makes

pub returns-in-Abandon-clause-makes : goal.returns-in-Abandon-clause-makes
returns-in-Abandon-clause-makes g c = asks_none (ap (call_of c.args.book.now.number) c.in-Abandon.is) refl c.abandon.ensures.makes

pub returns-in-Pass-clause-makes : goal.returns-in-Pass-clause-makes
returns-in-Pass-clause-makes g c = rw c.in-Pass.is c.pass.ensures.makes
