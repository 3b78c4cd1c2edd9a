-- When the answers of two calls that isolation compares are equal: where neither is excused, and with the numbers of a node taken apart. Assumes nothing.
use mathlib.Core.Path.{◌≡◌, refl, sym, ap₂, subst, subst⁻¹, ◌∙◌}
use mathlib.Core.Logic.{◌⊎◌, inl, inr}
use mathlib.Core.Bool.{Bool, true, false, ◌&&◌, ◌||◌, cond, and-eq-true_iff, false≢true}
use mathlib.Core.List.{List, [], ◌∷◌}
use Prim.Native.Nat.{ℕ, zero, suc, ◌+◌, ◌*◌, ◌^◌}
use native.Mathlib.Omega.{arith}
use borrow.Author.Tests.{eqb-true}
use lib.Dec.{leb, ltb, eqb}
use lib.ListN.{length}
use Rattle.tree.specs.Tree.{nth}
use Rattle.table.specs.Table.{holds, first_refusal, read_rows, size_rows, line_rows, page_rows}
use Rattle.model.specs.Calls.{on, ask, Query, read, size, recent, stamp, view, Answer, refused, node_is, filled, size_is, recent_is, stamp_is, part_is, Outcome, answers}
use Rattle.model.specs.History.{Version, History, no_version, version_at}
use Rattle.model.specs.Stamp.{stamp_at}
use Rattle.model.specs.Model.{Model, line_at, history, number_in}
use Rattle.model.specs.OnModel.{line_number, read_number, size_number, page_number, model_outcome, on_line, on_model}
use Rattle.isolation.specs.Isolation.{listed, Excused, by_list, assigned, not_begun, Numbered, of_ticket, of_line, of_node, SameAnswer, version, SameVersion, word, ticket, line, inner, leaf, first_number, Same}
use Rattle.isolation.proofs.Queries.{no_number}
use Rattle.uses.specs.Accepted.{limits}

-- A number that is no refusal of the request's list, nor 8.
abbrev Other : ℕ → Type 0
Other r = listed r || eqb r 8 ≡ false

other_row : (b : Bool) (k r : ℕ) → Other k → Other r → Other (cond b k r)
other_row true k r e d = e
other_row false k r e d = d

-- An answer that tells no number which is matched is the same in every word.
same-words : {l l' : ℕ} {m m' : Model} {t t' : ℕ} {a a' : Answer} → (Numbered a → ⊥) → SameAnswer l l' m m' t t' a a' → a ≡ a'
same-words f (word g) = refl
same-words f ticket = absurd (f of_ticket)
same-words f line = absurd (f of_line)
same-words f (inner x y z p h left) = absurd (f of_node)
same-words f (leaf x p i left) = absurd (f of_node)

module _ {l : ℕ} {m : Model} {t : ℕ} where
  -- A refusal that is excused is of the list, or 8; a part that is excused is of a line that has not begun.
  pub excused-number : {r : ℕ} → Excused l m t (refused r) → listed r || eqb r 8 ≡ true
  excused-number {r = r} (by_list e) = rw e
  excused-number (assigned e) = refl

  excused-part : {bytes : List ℕ} → Excused l m t (part_is bytes) → leb (length m.lines) l ≡ true
  excused-part (not_begun e) = e

-- An answer that tells no number which is matched, and is not excused.
pub record Clear (l : ℕ) (m : Model) (t : ℕ) (a : Answer) : Type 0 where
  pub words : Numbered a → ⊥
  pub fine : Excused l m t a → ⊥

-- A refusal by such a number is not excused.
not-excused : {l : ℕ} {m : Model} {t : ℕ} (r : ℕ) (a : Answer) → Other r → (Excused l m t a → ⊥) → Excused l m t (answers r a) → ⊥
not-excused zero a q f e = f e
not-excused (suc r) a q f e = false≢true (sym q ∙ excused-number e)

-- What reads a line that has begun is not excused: it is refused by 16, 17 or 18, if at all.
module _ (l : ℕ) (m : Model) (b : leb (length m.lines) l ≡ false) where
  unpublished : (v r : ℕ) → Other r → Other (cond (leb (length m.lines) l) 20 (cond (ltb (line_at m l).published v) 16 r))
  unpublished v r d = rw b (other_row (ltb (line_at m l).published v) 16 r refl d)

  query-fine : (q : Query) → Excused l m 0 (model_outcome limits m l q).answer → ⊥
  unfolding model_outcome first_refusal read_rows size_rows line_rows page_rows holds
  query-fine (read v offset len buffer) = not-excused (read_number limits m l v offset len buffer) filled
      (unpublished v _ (other_row (ltb (limits.size * (version_at (history m l) v).size) (offset + len)) 17 _ refl (other_row (ltb (length buffer) len) 18 0 refl refl))) (elim [ ])
  query-fine (size v) = not-excused (size_number limits m l v) (size_is (limits.size * (version_at (history m l) v).size)) (unpublished v 0 refl) (elim [ ])
  query-fine recent = not-excused (line_number limits m l) (recent_is (line_at m l).published) (rw b) (elim [ ])
  query-fine (stamp v p) = not-excused (page_number limits m l v p) (stamp_is (stamp_at (history m l) v p))
      (unpublished v _ (other_row (leb (version_at (history m l) v).size p) 17 0 refl refl)) (elim [ ])
  query-fine (view v p) = λ e. false≢true (sym b ∙ excused-part e)

  pub query-clear : (q : Query) → Clear l m 0 (on_model limits m (on l (ask q))).1.answer
  unfolding on_model on_line
  query-clear q = record { words = no_number limits m l q; fine = query-fine q }

pub outcome : {o o' : Outcome} → o.answer ≡ o'.answer → o.buffer ≡ o'.buffer → o ≡ o'
outcome e e' = ap₂ (λ (x : Answer) (b : List ℕ). record { answer = x; buffer = b }) e e'

-- Where the model's answers are not excused, the store gives back the same; and where they are clear, the same in every word.
module _ {l l' : ℕ} {m m' : Model} {t t' : ℕ} {o o' p p' : Outcome} (e : o ≡ p) (e' : o' ≡ p') where
  pub is_same : (Excused l m t p.answer → ⊥) → (Excused l' m' t' p'.answer → ⊥) → Same l l' m m' t t' o o' ⊎ (Excused l m t o.answer ⊎ Excused l' m' t' o'.answer)
      → Same l l' m m' t t' o o'
  is_same f f' (inl s) = s
  is_same f f' (inr (inl x)) = absurd (f (subst (λ (y : Outcome). Excused l m t y.answer) e x))
  is_same f f' (inr (inr x)) = absurd (f' (subst (λ (y : Outcome). Excused l' m' t' y.answer) e' x))

  pub agreed : Clear l m t p.answer → Clear l' m' t' p'.answer → Same l l' m m' t t' o o' ⊎ (Excused l m t o.answer ⊎ Excused l' m' t' o'.answer) → o ≡ o'
  agreed f f' x =
      let s = is_same f.fine f'.fine x in
      outcome (same-words (subst⁻¹ (λ (x : Outcome). Numbered x.answer → ⊥) e f.words) s.0) s.1

-- ---- nodes of line 0 in both runs

-- All versions are line 0's own.
unfoldable pub all_own : List Version → Bool
all_own [] = true
all_own (x ∷ xs) = eqb x.line 0 && all_own xs

own_line : (xs : List Version) → all_own xs ≡ true → (v : ℕ) → (nth no_version xs v).line ≡ 0
unfolding all_own
own_line [] e zero = refl
own_line [] e (suc v) = refl
own_line (x ∷ xs) e zero = refl
own_line (x ∷ xs) e (suc zero) = eqb-true x.line 0 ((and-eq-true_iff (eqb x.line 0) (all_own xs)).0 e).0
own_line (x ∷ xs) e (suc (suc v)) = own_line xs ((and-eq-true_iff (eqb x.line 0) (all_own xs)).0 e).1 (suc v)

-- Then a version's number is its own.
own-number : (h : History) → all_own h.versions ≡ true → (v : ℕ) → number_in h v ≡ v
own-number h e zero = refl
own-number h e (suc v) = rw (own_line h.versions e (suc v)) (omega arith)

module _ {m m' : Model} (own : all_own (history m 0).versions ≡ true) (own' : all_own (history m' 0).versions ≡ true) where
  version-same : {x x' : ℕ} → SameVersion 0 0 m m' x x' → x ≡ x'
  version-same (version v) = own-number (history m 0) own v ∙ sym (own-number (history m' 0) own' v)

  pub root-same : {t t' v p x y left : ℕ} {a a' : Answer} → SameAnswer 0 0 m m' t t' a a' → a ≡ node_is v p 2 x y left → a ≡ a'
  root-same (word f) e = refl
  root-same ticket e = let z : ◌≡◌ {A = ℕ} 0 1 = cc in absurd (omega arith)
  root-same line e = let z : ◌≡◌ {A = ℕ} 0 1 = cc in absurd (omega arith)
  root-same (inner v x y p h left) e = rw (version-same v, version-same x, version-same y)
  root-same (leaf v p i left) e = let z : ◌≡◌ {A = ℕ} 1 2 = cc in absurd (omega arith)

  pub leaf-moved : {t t' v p : ℕ} (i : ℕ) {left : ℕ} {a a' : Answer} → SameAnswer 0 0 m m' t t' a a' → a ≡ node_is v p 1 (first_number m t + i) 0 left → a' ≡ node_is v p 1 (first_number m' t' + i) 0 left
  leaf-moved i (word f) e = absurd (f (subst⁻¹ Numbered e of_node))
  leaf-moved i ticket e = let z : ◌≡◌ {A = ℕ} 0 1 = cc in absurd (omega arith)
  leaf-moved i line e = let z : ◌≡◌ {A = ℕ} 0 1 = cc in absurd (omega arith)
  leaf-moved i (inner v x y p h left) e = let z : 2 ^ suc h ≡ 1 = cc in absurd (omega arith)
  leaf-moved {t = t} {v = v} {p = p} i {left = left} (leaf {v = u} s q j rest) e =
      let ev : u ≡ v = cc in
      let ep : q ≡ p = cc in
      let es : first_number m t + j ≡ first_number m t + i = cc in
      let ei : j ≡ i = omega arith in
      let er : rest ≡ left = cc in
      rw (← version-same s, ev, ep, ei, er)
