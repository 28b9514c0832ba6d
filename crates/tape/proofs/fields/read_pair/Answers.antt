use Rattle.std.proofs.Common.{◌^◌, ◌<◌, rules}
use Rattle.tape.proofs.FieldLaws.{pair_read}
use Rattle.tape.proofs.fields.read_pair.Goals as goal

pub overflow_cast-result : goal.overflow_cast-result
overflow_cast-result c =
    let p = pair_read c.args.bytes.now c.args.at c.read_field.result c.requires c.read_field.ensures.octets c.read_field.ensures.value in
    let h : c.read_field.result < 2 ^ 16 = p.0 in search rules

pub returns : goal.returns
returns c =
    (pair_read c.args.bytes.now c.args.at c.read_field.result c.requires c.read_field.ensures.octets c.read_field.ensures.value).1
