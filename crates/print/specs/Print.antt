-- The answer lines, byte by byte, with the line feed.
use Rattle.std.specs.Prelude.{ℕ, zero, suc, ◌+◌, ◌/◌, ◌%◌, List, [], ◌∷◌, ◌++◌, ltb}
use Rattle.text.specs.Quoted.{text}
use Rattle.text.specs.Text.{pick, comma, line_feed}
use Rattle.print.specs.declared.Reply.{Reply}
use Rattle.print.specs.declared.Reply.TheVariants.{Ok, Ticket, Put, Version, Node, Published, Waiting, Held, Line, Size, Recent, Stamp, Worst, Refused}

-- n in at most k decimal digits
unfoldable pub digits : ℕ → ℕ → List ℕ
digits zero n = []
digits (suc k) n = pick (ltb n 10) ((48 + n) ∷ []) (digits k (n / 10) ++ ((48 + n % 10) ∷ []))

-- n in decimal digits: 20 are enough for 64 bits
unfoldable pub decimal : ℕ → List ℕ
decimal n = digits 20 n

-- a comma before each number, and a line feed at the end
abbrev pub numbers_line : List ℕ → List ℕ
numbers_line [] = line_feed ∷ []
numbers_line (n ∷ ns) = comma ∷ (decimal n ++ numbers_line ns)

-- a word and numbers
abbrev pub line_of : List ℕ → List ℕ → List ℕ
line_of w ns = w ++ numbers_line ns

-- the line of a reply
unfoldable pub reply_line : Reply → List ℕ
reply_line Ok = line_of (text "ok") []
reply_line (Ticket t) = line_of (text "ticket") (t ∷ [])
reply_line Put = line_of (text "put") []
reply_line (Version v n) = line_of (text "version") (v ∷ n ∷ [])
reply_line (Node v f s l r n) = line_of (text "node") (v ∷ f ∷ s ∷ l ∷ r ∷ n ∷ [])
reply_line (Published v) = line_of (text "published") (v ∷ [])
reply_line Waiting = line_of (text "waiting") []
reply_line Held = line_of (text "held") []
reply_line (Line l) = line_of (text "line") (l ∷ [])
reply_line (Size n) = line_of (text "size") (n ∷ [])
reply_line (Recent v) = line_of (text "recent") (v ∷ [])
reply_line (Stamp v) = line_of (text "stamp") (v ∷ [])
reply_line (Worst n) = line_of (text "worst") (n ∷ [])
reply_line (Refused n) = line_of (text "refused") (n ∷ [])

-- the lowercase hexadecimal digit of a number below 16
abbrev pub hex_digit : ℕ → ℕ
hex_digit n = pick (ltb n 10) (48 + n) (87 + n)

-- bytes in hexadecimal, two digits a byte
abbrev pub hex_text : List ℕ → List ℕ
hex_text [] = []
hex_text (b ∷ l) = hex_digit (b / 16) ∷ hex_digit (b % 16) ∷ hex_text l

-- the line of the bytes that were read
unfoldable pub bytes_line : List ℕ → List ℕ
bytes_line l = text "bytes," ++ (hex_text l ++ (line_feed ∷ []))
