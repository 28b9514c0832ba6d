use Rattle.std.proofs.Common.{length}
use Rattle.tape.specs.Reading.{item_of}
use Rattle.tape.proofs.WriteLaws.{count_made, wrote}
use Rattle.tape.proofs.writing.write_record.Goals as goal

pub returns : goal.returns
returns g c =
    let count = c.in_ok-size.ensures in
    let made = count_made g.L.Length.WIDTH (item_of c.args.item) (length c.args.into.now) c.in_ok-size.size count in
    let p = wrote g.L.Length.WIDTH (item_of c.args.item) c.args.into.now c.write_fields.new.into c.in_ok-size.size made c.write_fields.ensures.bytes c.write_fields.ensures.short in
    record { count = count; bytes = p.0; back = p.1 }
