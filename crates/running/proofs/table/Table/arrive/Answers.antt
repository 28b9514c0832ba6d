use Rattle.std.proofs.Common.{not, sym, refl, ap}
use Rattle.running.proofs.Tables.{read_due, seen_set, dues_set}
use Rattle.running.proofs.table.Table.arrive.Goals as goal

pub returns : goal.returns
returns c = record {
  joins = ap not (sym (read_due c.args.self.now c.args.w c.index.result.now c.requires c.index.ensures));
  seen = seen_set c.args.self.now c.args.w _;
  dues = dues_set c.args.self.now c.args.w _;
  size = (refl, refl);
}
