-- What does not fit, the digits of the next byte, and the end of the line, in `print::write_bytes`.
use Rattle.std.proofs.Common.{◌+◌, refl, ap, ◌∙◌, length, drop, length-set, length-drop, arith}
use Rattle.text.specs.Quoted.{text}
use Rattle.text.proofs.Buffer.{front-past, front_fits, wrote-fits}
use Rattle.print.specs.Print.{bytes_line}
use Rattle.print.proofs.Answering.{hex_line, hex_line-length, bytes-length, hex-put, hex-close, put-close, put-line}
use Rattle.print.proofs.write_bytes.Goals as goal

pub returns-then-out-lt7 : goal.returns-then-out-lt7
returns-then-out-lt7 c = front-past (bytes_line c.args.bytes.now) c.args.out.now (omega (arith, bytes-length c.args.bytes.now))

pub returns-then-bytes-out : goal.returns-then-bytes-out
returns-then-bytes-out c = front-past (bytes_line c.args.bytes.now) c.args.out.now (omega (arith, bytes-length c.args.bytes.now))

pub loop-b-init : goal.loop-b-init
loop-b-init c =
    let line = hex_line-length c.args.bytes.now in
    (refl, refl, omega (arith, c.put_word-at.auto.out), refl)

pub loop-b-preserved : goal.loop-b-preserved
loop-b-preserved c =
    let bytes = c.args.bytes.now in
    let l = c.loop-b in
    let now = hex_line-length (drop l.b-index bytes) in
    let next = hex_line-length (drop (l.b-index + 1) bytes) in
    let n = length-drop l.b-index bytes in
    let m = length-drop (l.b-index + 1) bytes in (
      simp length-set (omega arith),
      omega arith,
      omega arith,
      hex-put bytes l.b-index (omega arith) _ _ c.hex_digit.ensures c.hex_digit-in-loop-b.ensures l.at l.out (omega arith) ∙ l.invariant.3,
    )

pub returns : goal.returns
unfolding bytes_line
returns c =
    let bytes = c.args.bytes.now in
    let l = c.loop-b in
    let put = c.put_word-at in
    let end = hex-close bytes l.b-index (omega arith) in
    let last = ap length end in
    let all = bytes-length bytes in
    let line = hex_line-length bytes in
    let wrote = wrote-fits (bytes_line bytes) c.args.out.now (omega arith) in (
      omega arith,
      put-line (text "bytes,") (hex_line bytes) c.args.out.now put.new.out _ put.result put.ensures.0 (omega arith) put.ensures.1
          (put-close l.at (hex_line (drop l.b-index bytes)) l.out (omega arith) end ∙ l.invariant.3)
          ∙ front_fits (bytes_line bytes) c.args.out.now (omega arith),
    )
