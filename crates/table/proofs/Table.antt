-- The laws by which a chain of tests in the code is read off the table, a row at a time.
-- Assumes nothing.
use mathlib.Core.Path.{◌≡◌, refl, sym, ◌∙◌}
use mathlib.Core.Bool.{Bool, true, false, cond, ◌&&◌, ◌||◌, or-true, and-false}
use mathlib.Core.List.{List, [], ◌∷◌, ◌++◌, append_assoc}
use mathlib.Core.Logic.{◌⊎◌, inl, inr, ⊎_map}
use Prim.Native.Nat.{ℕ, zero, suc, ◌≤◌, ◌<◌}
use native.Mathlib.Omega.{arith}
use borrow.Author.Tests.{le-leb, lt-leb, lt-ltb, le-ltb, eq-eqb, ne_eqb, leb-false, ltb-false, eqb-false, eqb-true, not-false}
use Rattle.table.specs.Table.{Cond, ◌≤?◌, ◌<?◌, ◌≡?◌, ◌≢?◌, ◌and◌, ◌or◌, test, holds, Row, ◌gives◌, first_refusal, or_else, unless, every_call}

-- A condition as a statement, and its denial: what `omega` and the code's tests speak of.
abbrev pub Holds : Cond → Type 0
Holds (a ≤? b) = a ≤ b
Holds (a <? b) = a < b
Holds (a ≡? b) = a ≡ b
Holds (a ≢? b) = a ≡ b → ⊥
Holds (c and d) = Holds c × Holds d
Holds (c or d) = Holds c ⊎ Holds d
Holds (test b) = b ≡ true

abbrev pub Fails : Cond → Type 0
Fails (a ≤? b) = b < a
Fails (a <? b) = b ≤ a
Fails (a ≡? b) = a ≡ b → ⊥
Fails (a ≢? b) = a ≡ b
Fails (c and d) = Fails c ⊎ Fails d
Fails (c or d) = Fails c × Fails d
Fails (test b) = b ≡ false

pub holds-true : (c : Cond) → Holds c → holds c ≡ true
unfolding holds
holds-true (a ≤? b) h = le-leb a b h
holds-true (a <? b) h = lt-ltb a b h
holds-true (a ≡? b) h = eq-eqb a b h
holds-true (a ≢? b) h = rw (ne_eqb a b h)
holds-true (c and d) h = rw (holds-true c h.0) (holds-true d h.1)
holds-true (c or d) (inl h) = rw (holds-true c h)
holds-true (c or d) (inr h) = rw (holds-true d h) (or-true (holds c))
holds-true (test b) h = h

pub holds-false : (c : Cond) → Fails c → holds c ≡ false
unfolding holds
holds-false (a ≤? b) h = lt-leb a b h
holds-false (a <? b) h = le-ltb a b h
holds-false (a ≡? b) h = ne_eqb a b h
holds-false (a ≢? b) h = rw (eq-eqb a b h)
holds-false (c and d) (inl h) = rw (holds-false c h)
holds-false (c and d) (inr h) = rw (holds-false d h) (and-false (holds c))
holds-false (c or d) h = rw (holds-false c h.0) (holds-false d h.1)
holds-false (test b) h = h

-- What a function that tests the condition returns.
pub yes : (c : Cond) → Holds c → true ≡ holds c
yes c h = sym (holds-true c h)

pub no : (c : Cond) → Fails c → false ≡ holds c
no c h = sym (holds-false c h)

and_split : (a b : Bool) → (a && b) ≡ false → (a ≡ false) ⊎ (b ≡ false)
and_split true b e = inr e
and_split false b e = inl refl

or_split : (a b : Bool) → (a || b) ≡ false → (a ≡ false) × (b ≡ false)
or_split true b e = (e, cc)
or_split false b e = (refl, e)

pub fails : (c : Cond) → holds c ≡ false → Fails c
unfolding holds
fails (a ≤? b) e = leb-false a b e
fails (a <? b) e = ltb-false a b e
fails (a ≡? b) e = eqb-false a b e
fails (a ≢? b) e = eqb-true a b (not-false _ e)
fails (c and d) e = ⊎_map (fails c) (fails d) (and_split (holds c) (holds d) e)
fails (c or d) e = let p = or_split (holds c) (holds d) e in (fails c p.0, fails d p.1)
fails (test b) e = e

-- k is the number that the rows give: the condition of each row passed fails, and that of the row stopped at holds, as a statement or as a flag.
pub data First : List Row → ℕ → Type 0 where
  none : First [] 0
  hit : {c : Cond} {k : ℕ} {rows : List Row} → Holds c → First ((c gives k) ∷ rows) k
  skip : {c : Cond} {k r : ℕ} {rows : List Row} → Fails c → First rows r → First ((c gives k) ∷ rows) r
  hit-flag : {c : Cond} {k : ℕ} {rows : List Row} → holds c ≡ true → First ((c gives k) ∷ rows) k
  skip-flag : {c : Cond} {k r : ℕ} {rows : List Row} → holds c ≡ false → First rows r → First ((c gives k) ∷ rows) r
  -- A callee has tested the rows that are left.
  rest : {r : ℕ} {rows : List Row} → r ≡ first_refusal rows → First rows r

pub first : {rows : List Row} {r : ℕ} → First rows r → r ≡ first_refusal rows
unfolding first_refusal
first none = refl
first (hit {c} h) = rw (holds-true c h)
first (skip {c} h t) = rw (holds-false c h) (first t)
first (hit-flag e) = rw e
first (skip-flag e t) = rw e (first t)
first (rest e) = e

-- No row has the number 0, and no row's condition holds.
abbrev pub Numbered : List Row → Type 0
Numbered [] = Unit
Numbered ((c gives zero) ∷ rows) = ⊥
Numbered ((c gives suc k) ∷ rows) = Numbered rows

abbrev pub AllFail : List Row → Type 0
AllFail [] = Unit
AllFail ((c gives k) ∷ rows) = Fails c × AllFail rows

one-row : (b : Bool) (k m : ℕ) → cond b (suc k) m ≡ 0 → (b ≡ false) × (m ≡ 0)
one-row true k m e = absurd (omega arith)
one-row false k m e = (refl, e)

-- Where the rows give 0, what each row asks fails.
pub passed : (rows : List Row) → Numbered rows → first_refusal rows ≡ 0 → AllFail rows
unfolding first_refusal
passed [] t e = tt
passed ((c gives zero) ∷ rows) t e = absurd t
passed ((c gives suc k) ∷ rows) t e = let p = one-row (holds c) k (first_refusal rows) e in (fails c p.0, passed rows t p.1)

-- ---- rows in two parts: the number of the first decides where it is not 0, else that of the second

pub or_else-0 : (k r : ℕ) → k ≡ 0 → or_else k r ≡ r
unfolding or_else
or_else-0 zero r e = refl
or_else-0 (suc k) r e = absurd (omega arith)

pub or_else-suc : (k r : ℕ) → (k ≡ 0 → ⊥) → or_else k r ≡ k
unfolding or_else
or_else-suc zero r h = absurd (h refl)
or_else-suc (suc k) r h = refl

row-parts : (b : Bool) (k m r : ℕ) → cond b (suc k) (or_else m r) ≡ or_else (cond b (suc k) m) r
unfolding or_else
row-parts true k m r = refl
row-parts false k m r = refl

pub parts : (rows more : List Row) → Numbered rows → first_refusal (rows ++ more) ≡ or_else (first_refusal rows) (first_refusal more)
unfolding first_refusal
parts [] more t = sym (or_else-0 0 (first_refusal more) refl)
parts ((c gives zero) ∷ rows) more t = absurd t
parts ((c gives suc k) ∷ rows) more t = rw (parts rows more t) (row-parts (holds c) k (first_refusal rows) (first_refusal more))

-- At a return of a function that is handed the first part's number: that is 0, and the rows after it decide.
pub second : {k r : ℕ} {rows : List Row} → k ≡ 0 → First rows r → r ≡ or_else k (first_refusal rows)
second {k} {r} {rows} e f = first f ∙ sym (or_else-0 k (first_refusal rows) e)

-- A call's rows, where a callee has tested row 3 and the rows after it that several calls share. (Written-out rows are `rows ++ more` by computing.)
pub call-parts : (differ : Cond) (rows more : List Row) (lost : Cond) → Numbered rows
    → first_refusal (every_call differ (rows ++ more) lost) ≡ or_else (first_refusal ((differ gives 3) ∷ rows)) (first_refusal (more ++ (lost gives 19) ∷ []))
call-parts differ rows more lost t = rw (append_assoc rows more ((lost gives 19) ∷ [])) (parts ((differ gives 3) ∷ rows) (more ++ (lost gives 19) ∷ []) t)

-- ---- where rows 3 and 19 fail, a call's number is that of its own rows

-- A last row that fails gives nothing.
pub last-fails : (rows : List Row) (c : Cond) (k : ℕ) → holds c ≡ false → first_refusal (rows ++ (c gives k) ∷ []) ≡ first_refusal rows
unfolding first_refusal
last-fails [] c k e = rw e
last-fails ((d gives r) ∷ rows) c k e = rw (last-fails rows c k e)

pub every-call : (differ : Cond) (rows : List Row) (lost : Cond) → holds differ ≡ false → holds lost ≡ false
    → first_refusal (every_call differ rows lost) ≡ first_refusal rows
unfolding first_refusal
every-call differ rows lost d l = rw d (last-fails rows lost 19 l)

-- ---- unless: where the table's number is 0 the call is done, else nothing moves

pub unless-0 : {A : Type 0} (k : ℕ) (was done : A) → k ≡ 0 → unless k was done ≡ done
unfolding unless
unless-0 zero was done e = refl
unless-0 (suc k) was done e = absurd (omega arith)

pub unless-suc : {A : Type 0} (k : ℕ) (was done : A) → 0 < k → unless k was done ≡ was
unfolding unless
unless-suc zero was done h = absurd (omega arith)
unless-suc (suc k) was done h = refl

-- A number is 0 or it is not.
pub number-cases : (k : ℕ) → (k ≡ 0) ⊎ (0 < k)
number-cases zero = inl refl
number-cases (suc k) = inr (omega arith)

-- What holds of the state before, and of the state that the call leaves where the number is 0, holds after the call.
pub unless-keeps : {A : Type 0} (P : A → Type 0) (k : ℕ) (was done : A) → P was → (k ≡ 0 → P done) → P (unless k was done)
unfolding unless
unless-keeps P zero was done p q = q refl
unless-keeps P (suc k) was done p q = p

-- What the call leaves need be the same only where the number is 0.
pub unless-same : {A : Type 0} (k : ℕ) (was done done' : A) → (k ≡ 0 → done ≡ done') → unless k was done ≡ unless k was done'
unfolding unless
unless-same zero was done done' e = e refl
unless-same (suc k) was done done' e = refl

-- What a call answers by the table's number is, where that is not 0, its refusal.
pub refused-by : {A : Type 0} (refused answer : ℕ → A) → ((k : ℕ) → refused (suc k) ≡ answer (suc k)) → (k : ℕ) → (k ≡ 0 → ⊥) → refused k ≡ answer k
refused-by refused answer same zero h = absurd (h refl)
refused-by refused answer same (suc k) h = same k
