-- A block put among blocks of one size, one after another, and a block as a part of them.
-- Assumes nothing.
use mathlib.Core.Path.{◌≡◌, sym}
use mathlib.Core.List.{List, [], ◌∷◌, ◌++◌, append_assoc}
use Prim.Native.Nat.{ℕ, suc, ◌+◌, ◌*◌, ◌<◌}
use borrow.Author.Tests.{le-leb}
use lib.ListN.{length, get_or, take, drop, set}
use lib.Seq.{set_split, take_at, drop_at, drop-drop}
use Rattle.pages.specs.Pages.{put, part}
use Rattle.model.specs.History.{Page}
use Rattle.model.specs.InTurn.{joined}
use Rattle.model.proofs.Lists.Blocks.{Blocks, joined-append, joined-split, length_front, block-drop, block_room, block-part as block-taken}

module _ (S : ℕ) (xs : List Page) (sized : Blocks S xs) (q : ℕ) (there : q < length xs) where
  pub block-part : part (joined xs) (S * q) S ≡ get_or xs q []
  unfolding part
  block-part = rw (le-leb (S * q + S) (length (joined xs)) (block_room S xs sized q there)) (block-taken S xs sized q there)

  block-take : take (S * q) (joined xs) ≡ joined (take q xs)
  block-take = rw (joined-split xs q there) (take_at (joined (take q xs)) (get_or xs q [] ++ joined (drop (suc q) xs)) (S * q) (length_front S xs sized q there))

  block-after : drop (S * q + S) (joined xs) ≡ joined (drop (suc q) xs)
  block-after = rw (← drop-drop S (S * q) (joined xs), block-drop S xs sized q there) (drop_at (get_or xs q []) (joined (drop (suc q) xs)) S (sized q there))

  pub block-put : (x : Page) → length x ≡ S → put (joined xs) (S * q) x ≡ joined (set xs q x)
  unfolding put joined
  block-put x e =
      rw (e, le-leb (S * q + S) (length (joined xs)) (block_room S xs sized q there), block-take, block-after, append_assoc, set_split xs q x there)
      (sym (joined-append (take q xs) (x ∷ drop (suc q) xs)))
