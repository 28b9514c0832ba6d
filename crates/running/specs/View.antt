-- The run that a view shows.
use Rattle.routing.specs.Rules.{Run}
use Rattle.running.specs.declared.view.View.{View}
use Rattle.running.specs.Work.{run_of}

-- what the work and the length list stand for
abbrev pub run_in : {L : Type 0} → View L → Run L
run_in v = run_of v.work.now v.lengths.now
