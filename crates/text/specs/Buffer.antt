-- Bytes written into a buffer that is lent.
use Rattle.std.specs.Prelude.{ℕ, ◌+◌, List, ◌++◌, length, take, drop, leb}
use Rattle.text.specs.Text.{pick}

-- a buffer with s from index at on
unfoldable pub put_at : ℕ → List ℕ → List ℕ → List ℕ
put_at at s l = take at l ++ (s ++ drop (at + length s) l)

-- a buffer with s at its front, or as it was where s does not fit
unfoldable pub front : List ℕ → List ℕ → List ℕ
front s l = pick (leb (length s) (length l)) (s ++ drop (length s) l) l

-- how many bytes that wrote: the length of s, or 0 where s does not fit
unfoldable pub wrote : List ℕ → List ℕ → ℕ
wrote s l = pick (leb (length s) (length l)) (length s) 0
