-- What does not fit, the next byte, and all of them.
use Rattle.std.proofs.Common.{◌∙◌, arith}
use Rattle.text.proofs.Buffer.{front-past}
use Rattle.fields.specs.Fields.{unhex}
use Rattle.fields.proofs.Hex.{unhex-length, pair_byte, put_next, put_whole}
use Rattle.fields.proofs.put_hex.Goals as goal

pub returns-then-n-bytes : goal.returns-then-n-bytes
returns-then-n-bytes c = (front-past (unhex c.args.f.now) c.args.bytes.now (omega (arith, unhex-length c.args.f.now c.requires))).1

pub loop-i-preserved : goal.loop-i-preserved
loop-i-preserved c =
    let f = c.args.f.now in
    let l = c.loop-i in
    let n = unhex-length f c.requires in
    rw l.invariant (put_next l.i _ (unhex f) c.args.bytes.now (omega arith) (omega arith) (grind (arith, pair_byte f l.i c.requires (omega arith))))

pub returns : goal.returns
returns c =
    let f = c.args.f.now in
    let n = unhex-length f c.requires in
    c.loop-i.invariant ∙ put_whole (unhex f) c.args.bytes.now c.loop-i.i (omega arith) (omega arith)
