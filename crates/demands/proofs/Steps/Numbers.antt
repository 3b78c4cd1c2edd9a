-- The table's number on the image of a model and on the model itself: two tables whose conditions agree row by row, as long as no row has decided.
-- Assumes nothing.
use mathlib.Core.Path.{◌≡◌, refl, ◌∙◌}
use mathlib.Core.Logic.{inl, inr}
use mathlib.Core.Bool.{Bool, true, false, cond}
use mathlib.Core.List.{List, [], ◌∷◌, ◌++◌}
use Prim.Native.Nat.{ℕ, ◌+◌, ◌≤◌, ◌<◌}
use native.Mathlib.Omega.{arith}
use borrow.Author.Tests.{eq-eqb}
use Rattle.table.specs.Table.{Cond, ◌≤?◌, ◌≡?◌, always, holds, Row, ◌gives◌, first_refusal, every_call, put_rows, assign_rows, weave_rows, read_rows, page_rows}
use Rattle.versions.specs.Store.{areas_differ}
use Rattle.table.proofs.Table.{Fails, holds-true, holds-false, fails, every-call, number-cases}
use Rattle.model.specs.Model.{Limits, Model}
use Rattle.model.proofs.Model.Sound.{Sound}
use Rattle.demands.proofs.Image.{store_image, areas_image}
use Rattle.demands.proofs.Records.{areas-agree}

-- ---- two tables row by row

-- What stands after a row matters only where the row does not hold.
cond_same : (b : Bool) (k x y : ℕ) → (b ≡ false → x ≡ y) → cond b k x ≡ cond b k y
cond_same true k x y h = refl
cond_same false k x y h = h refl

-- Rows after one that holds need not agree.
abbrev pub Alike : List Row → List Row → Type 0
Alike [] [] = Unit
Alike [] (r ∷ rest) = ⊥
Alike (r ∷ rows) [] = ⊥
Alike ((c gives k) ∷ rows) ((d gives j) ∷ rest) = (k ≡ j) × (holds c ≡ holds d) × (Fails d → Alike rows rest)

pub alike : (rows rest : List Row) → Alike rows rest → first_refusal rows ≡ first_refusal rest
unfolding first_refusal
alike [] [] a = refl
alike [] (r ∷ rest) a = absurd a
alike (r ∷ rows) [] a = absurd a
alike ((c gives k) ∷ rows) ((d gives j) ∷ rest) a =
    rw (a.0, a.1) (cond_same (holds d) j (first_refusal rows) (first_refusal rest) (λ z. alike rows rest (a.2 (fails d z))))

-- A table agrees with itself.
pub alike_same : (rows : List Row) → Alike rows rows
alike_same [] = tt
alike_same ((c gives k) ∷ rows) = (refl, refl, λ z. alike_same rows)

-- ---- rows 3 and 19

below-cond : (b : Bool) (k x y : ℕ) → (0 < x → y ≡ x) → 0 < cond b k x → cond b k y ≡ cond b k x
below-cond true k x y e h = refl
below-cond false k x y e h = e h

-- Where a row decides, those after it do not matter.
pub rows_then : (rows more : List Row) → 0 < first_refusal rows → first_refusal (rows ++ more) ≡ first_refusal rows
unfolding first_refusal
rows_then [] more h = absurd (omega arith)
rows_then ((c gives k) ∷ rows) more h =
    below-cond (holds c) k (first_refusal rows) (first_refusal (rows ++ more)) (λ l. rows_then rows more l) h

-- Row 3 does not hold, the call's own rows agree, and where they pass row 19 does not hold: the number is that of the model's rows.
pub number_same : (differ : Cond) (rows rest : List Row) (lost : Cond) → holds differ ≡ false → Alike rows rest → (first_refusal rest ≡ 0 → Fails lost)
    → first_refusal (every_call differ rows lost) ≡ first_refusal rest
unfolding first_refusal
number_same differ rows rest lost e a h =
    let s = alike rows rest a in
    elim (number-cases (first_refusal rest)) [
      | inl z ↦ every-call differ rows lost e (holds-false lost (h z)) ∙ s
      | inr l ↦ rw e (rows_then rows ((lost gives 19) ∷ []) (omega arith) ∙ s)
    ]

-- On the image of a sound model row 3 never holds.
pub image-number : (L : Limits) (m : Model) → Sound L m → (rows rest : List Row) (lost : Cond) → Alike rows rest → (first_refusal rest ≡ 0 → Fails lost)
    → first_refusal (every_call (areas_differ (store_image L m) (areas_image L m)) rows lost) ≡ first_refusal rest
image-number L m S rows rest lost a h = number_same (areas_differ (store_image L m) (areas_image L m)) rows rest lost (areas-agree L m S) a h

-- ---- the calls' own rows: what they read need agree only where no row has decided

-- The record that a row reads is there.
there-holds : (t most : ℕ) → t ≤ most → holds (t ≤? most) ≡ true
there-holds t most h = holds-true (t ≤? most) h

-- PUT: the store's register is most long; version, n and bit are the ticket's, of the record and of the model.
pub record PutReads (t most v v' n n' b b' : ℕ) : Type 0 where
  pub there : t ≤ most
  pub version : v ≡ v'
  pub pages : n ≡ n'
  pub bit : b ≡ b'

pub put-alike : (t tickets most v v' n n' i b b' bytes size : ℕ) → (0 < t → t ≤ tickets → PutReads t most v v' n n' b b')
    → Alike (put_rows (t ≤? most) t tickets v n i b bytes size) (put_rows always t tickets v' n' i b' bytes size)
unfolding put_rows holds
put-alike t tickets most v v' n n' i b b' bytes size h = (
  refl,
  refl,
  λ z.
      let r = h (omega arith) (omega arith) in
      let o = there-holds t most r.there in
      (refl, rw (o, r.version), λ z. (refl, rw (o, r.pages), λ z. (refl, rw (o, r.bit), λ z. (refl, refl, λ z. tt)))),
)

-- ASSIGN: the counts of nodes need agree only where the update ends within the limit.
pub record AssignReads (t most v v' : ℕ) (all all' : Bool) (f n n' c c' : ℕ) : Type 0 where
  pub there : t ≤ most
  pub version : v ≡ v'
  pub puts : all ≡ all'
  pub pages : n ≡ n'
  pub count : f + n' ≤ 4096 → c ≡ c'

pub assign_alike : (t tickets most v v' l lines : ℕ) (all all' : Bool) (f blob n n' places nodes c c' : ℕ)
    → (0 < t → t ≤ tickets → AssignReads t most v v' all all' f n n' c c')
    → Alike (assign_rows (t ≤? most) t tickets v l lines all f blob n places nodes c) (assign_rows always t tickets v' l lines all' f blob n' places nodes c')
unfolding assign_rows holds
assign_alike t tickets most v v' l lines all all' f blob n n' places nodes c c' h = (
  refl,
  refl,
  λ z.
      let r = h (omega arith) (omega arith) in
      let o = there-holds t most r.there in (
        refl,
        rw (o, r.version),
        λ z. (
          refl,
          refl,
          λ z. (
            refl,
            rw (o, r.puts),
            λ z. (
              refl,
              refl,
              λ z. (
                refl,
                rw (o, r.pages),
                λ z.
                    let k : f + n' ≤ 4096 = elim z [ inl x ↦ absurd (omega arith) | inr l ↦ l ] in
                    (refl, rw (o, r.count k), λ z. tt),
              ),
            ),
          ),
        ),
      ),
)

-- WEAVE: the version's record is read only where the ticket has a version.
pub record WeaveReads (t most v v' w w' c c' : ℕ) : Type 0 where
  pub there : t ≤ most
  pub version : v ≡ v'
  pub kept : 0 < v' → v' ≤ most
  pub woven : 0 < v' → w ≡ w'
  pub count : 0 < v' → c ≡ c'

pub weave-alike : (t tickets most v v' w w' c c' : ℕ) → (0 < t → t ≤ tickets → WeaveReads t most v v' w w' c c')
    → Alike (weave_rows (t ≤? most) (v ≤? most) t tickets v w c) (weave_rows always always t tickets v' w' c')
unfolding weave_rows holds
weave-alike t tickets most v v' w w' c c' h = (
  refl,
  refl,
  λ z.
      let r = h (omega arith) (omega arith) in
      let o = there-holds t most r.there in (
        refl,
        elim (number-cases v') [
          | inl e ↦ rw (o, r.version, e)
          | inr l ↦ rw (o, r.version, there-holds v' most (r.kept l), r.woven l, r.count l)
        ],
        λ z. tt,
      ),
)

-- READ, STAMP and VIEW: the version's record is read only where the line has begun and the version is published; there is then its part, which has its number.
pub read_alike : (name c l lines v published total total' offset len buffer : ℕ) → (l < lines → v ≤ published → (name ≡ c) × (total ≡ total'))
    → Alike (read_rows (name ≡? c) l lines v published total offset len buffer) (read_rows always l lines v published total' offset len buffer)
unfolding read_rows holds
read_alike name c l lines v published total total' offset len buffer h = (
  refl,
  refl,
  λ y. (
    refl,
    refl,
    λ z.
        let r = h y z in
        (refl, rw (eq-eqb name c r.0, r.1), λ z. (refl, refl, λ z. tt)),
  ),
)

pub page-alike : (name c l lines v published pages pages' p : ℕ) → (l < lines → v ≤ published → (name ≡ c) × (pages ≡ pages'))
    → Alike (page_rows (name ≡? c) l lines v published pages p) (page_rows always l lines v published pages' p)
unfolding page_rows holds
page-alike name c l lines v published pages pages' p h = (
  refl,
  refl,
  λ y. (
    refl,
    refl,
    λ z.
        let r = h y z in
        (refl, rw (eq-eqb name c r.0, r.1), λ z. tt),
  ),
)
