use Rattle.std.proofs.Common.{◌≡◌, rules}
use Rattle.sheet.specs.Applying.{changed_of, ran_of}
use Rattle.sheet.proofs.Taking.{lay_so, reprice_so, bar_so, unbar_so, home_so}
use Rattle.sheet.proofs.applying.apply.Goals as goal

pub returns-in-Lay : goal.returns-in-Lay
returns-in-Lay g c = λ number n first h to.
    let said : c.map.result ≡ changed_of c.lay.result = search rules in
    let does = rw c.from_tape.ensures at c.lay.ensures.serves.does in
    rw (c.in-Lay.is, said) (lay_so _ number n first to _ _ _ c.lay.result does)

pub returns-in-Reprice : goal.returns-in-Reprice
returns-in-Reprice g c = λ number n first h to.
    let said : c.map-in-Reprice.result ≡ changed_of c.reprice.result = search rules in
    let does = rw c.from_tape-in-Reprice.ensures at c.reprice.ensures.serves.does in
    rw (c.in-Reprice.is, said) (reprice_so _ number n first to _ _ c.reprice.result does)

pub returns-in-Bar-switch : goal.returns-in-Bar-switch
returns-in-Bar-switch g c = λ number n first h to.
    let said : c.map-in-Bar-switch.result ≡ changed_of c.bar.result = search rules in
    rw (c.in-Bar.is, c.in-Bar-switch.is, said) (bar_so _ number n first to _ c.bar.result c.bar.ensures.serves.does)

pub returns-in-Unbar : goal.returns-in-Unbar
returns-in-Unbar g c = λ number n first h to.
    let said : c.map-in-Unbar.result ≡ changed_of c.unbar.result = search rules in
    rw (c.in-Bar.is, c.in-Unbar.is, said) (unbar_so _ number n first to _ c.unbar.result c.unbar.ensures.serves.does)

pub returns-in-Home : goal.returns-in-Home
returns-in-Home g c = λ number n first h to.
    let said : c.map-in-Home.result ≡ ran_of c.in-Home.home c.run_home.result = search rules in
    rw (c.in-Home.is, said) (home_so _ number n first to _ c.run_home.result c.run_home.ensures.homes)
