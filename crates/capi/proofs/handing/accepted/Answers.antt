use Rattle.std.proofs.Common.{rules}
use Rattle.words.proofs.Signs.{back32, back64}
use Rattle.capi.proofs.handing.accepted.Goals as goal

pub returns : goal.returns
returns c =
    let n = c.args.c in
    rw (
      back64 c.signed.result c.signed.type_inv,
      c.signed.ensures,
      back64 c.from.result c.from.type_inv,
      c.from.ensures,
      back32 n.token (search rules),
      back64 c.signed-2.result c.signed-2.type_inv,
      c.signed-2.ensures,
      back64 c.signed-3.result c.signed-3.type_inv,
      c.signed-3.ensures,
      back64 c.signed-4.result c.signed-4.type_inv,
      c.signed-4.ensures,
      back64 c.signed-5.result c.signed-5.type_inv,
      c.signed-5.ensures,
      back64 c.signed-6.result c.signed-6.type_inv,
      c.signed-6.ensures,
      back64 c.signed-7.result c.signed-7.type_inv,
      c.signed-7.ensures,
      back64 c.signed-8.result c.signed-8.type_inv,
      c.signed-8.ensures,
      back64 c.signed-9.result c.signed-9.type_inv,
      c.signed-9.ensures,
      back64 c.signed-10.result c.signed-10.type_inv,
      c.signed-10.ensures,
    ) at c.told.ensures
