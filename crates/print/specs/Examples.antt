-- The document's answers, and some others, computed.
use Rattle.std.specs.Prelude.{◌≡◌, refl, [], ◌∷◌, ◌-◌, ◌^◌}
use Rattle.text.specs.Quoted.{text, together}
use Rattle.print.specs.Print.{digits, decimal, reply_line, bytes_line}
use Rattle.print.specs.declared.Reply.TheVariants as Reply

-- the document's answers
document-answers :
    together
    (
    reply_line (Reply.Ok) ∷
    reply_line (Reply.Ticket 1) ∷
    reply_line (Reply.Ticket 2) ∷
    reply_line (Reply.Put) ∷
    reply_line (Reply.Put) ∷
    reply_line (Reply.Version 1 1) ∷
    reply_line (Reply.Version 2 2) ∷
    reply_line (Reply.Node 2 0 2 1 2 1) ∷
    reply_line (Reply.Waiting) ∷
    reply_line (Reply.Node 1 0 1 1 0 0) ∷
    reply_line (Reply.Published 1) ∷
    reply_line (Reply.Refused 16) ∷
    reply_line (Reply.Node 2 1 1 0 0 0) ∷
    reply_line (Reply.Published 2) ∷
    bytes_line (34 ∷ 34 ∷ 17 ∷ 17 ∷ []) ∷
    reply_line (Reply.Stamp 1) ∷
    reply_line (Reply.Refused 5) ∷ []
    )
    ≡ together
    (
    text "ok\n" ∷
    text "ticket,1\n" ∷
    text "ticket,2\n" ∷
    text "put\n" ∷
    text "put\n" ∷
    text "version,1,1\n" ∷
    text "version,2,2\n" ∷
    text "node,2,0,2,1,2,1\n" ∷
    text "waiting\n" ∷
    text "node,1,0,1,1,0,0\n" ∷
    text "published,1\n" ∷
    text "refused,16\n" ∷
    text "node,2,1,1,0,0,0\n" ∷
    text "published,2\n" ∷
    text "bytes,22221111\n" ∷
    text "stamp,1\n" ∷
    text "refused,5\n" ∷ []
    )
unfolding reply_line bytes_line decimal digits
document-answers = refl

-- other answers
other-answers :
    (reply_line (Reply.Line 15) ≡ text "line,15\n")
    × (reply_line Reply.Held ≡ text "held\n")
    × (reply_line (Reply.Recent 10) ≡ text "recent,10\n")
    × (reply_line (Reply.Worst 144) ≡ text "worst,144\n")
    × (reply_line (Reply.Node 65537 0 2 65537 2 2) ≡ text "node,65537,0,2,65537,2,2\n")
    × (reply_line (Reply.Size (2 ^ 64 - 1)) ≡ text "size,18446744073709551615\n")
    × (bytes_line (10 ∷ 255 ∷ 175 ∷ []) ≡ text "bytes,0affaf\n")
    × (bytes_line [] ≡ text "bytes,\n")
unfolding reply_line bytes_line decimal digits
other-answers = (refl, refl, refl, refl, refl, refl, refl, refl)
