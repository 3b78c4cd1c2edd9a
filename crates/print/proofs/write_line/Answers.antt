-- What does not fit, a comma and the next number, and the end of the line, in `print::write_line`.
use Rattle.std.proofs.Common.{sym, ap, ◌∙◌, length, drop, length-set, length-append, arith}
use Rattle.text.proofs.Buffer.{front-past, front_fits, wrote-fits}
use Rattle.print.specs.Print.{numbers_line, line_of}
use Rattle.print.proofs.Answering.{line-turn-length, line-put, line-end, put-close, put-line}
use Rattle.print.proofs.write_line.Goals as goal

pub returns-then-n-out : goal.returns-then-n-out
returns-then-n-out c = front-past (line_of c.args.word.now c.args.numbers.now) c.args.out.now (omega arith)

pub loop-number-preserved : goal.loop-number-preserved
loop-number-preserved c =
    let numbers = c.args.numbers.now in
    let l = c.loop-number in
    let n = c.put_number-at in
    let turn = line-turn-length numbers l.number-index (omega arith) in (
      omega (arith, n.auto.out, length-set l.out l.at 44),
      omega arith,
      rw (n.ensures.0, n.ensures.1) (line-put numbers l.number-index (omega arith) l.at l.out (omega arith) ∙ l.invariant.2),
    )

pub returns : goal.returns
returns c =
    let word = c.args.word.now in
    let numbers = c.args.numbers.now in
    let l = c.loop-number in
    let put = c.put_word-at in
    let end = line-end numbers l.number-index (omega arith) in
    let whole = length-append word (numbers_line numbers) in (
      c.line_length-n.ensures ∙ sym (wrote-fits (line_of word numbers) c.args.out.now (omega arith)),
      put-line word (numbers_line numbers) c.args.out.now put.new.out _ put.result put.ensures.0 (omega arith) put.ensures.1
          (put-close l.at (numbers_line (drop l.number-index numbers)) l.out (omega (arith, ap length end)) end ∙ l.invariant.2)
          ∙ front_fits (line_of word numbers) c.args.out.now (omega arith),
    )
