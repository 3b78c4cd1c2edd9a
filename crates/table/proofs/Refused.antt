-- A refusal's number is not 0: the answer is that refusal, and nothing moves.
use Rattle.std.proofs.Common.{◌≡◌, ℕ, zero, suc, ◌<◌, arith, refl, ◌⊎◌, inl, inr, Ok, Err}
use Rattle.table.specs.declared.Refusal.{Refusal}
use Rattle.table.specs.declared.Refusal.TheVariants.{PageSize, Capacity, AreaLength, UpdateSize, RegisterFull, PagesFull, NoSuchTicket, OutOfTurn, NoSuchPage, AlreadyPut, PageLength, NotAllPut, PastEnd, BlobFull, NodesFull, NotPublished, OutsideSnapshot, BufferTooShort, Damaged, NoSuchLine, LinesFull, NoSuchMinute, WrongWindow, TooManyWindows}
use Rattle.table.specs.Refused.{number, answered}
use Rattle.table.specs.Table.{or_else, unless}
use Rattle.table.proofs.Table.{or_else-suc, unless-suc}

pub number_positive : (e : Refusal) → 0 < number e
number_positive PageSize = omega arith
number_positive Capacity = omega arith
number_positive AreaLength = omega arith
number_positive UpdateSize = omega arith
number_positive RegisterFull = omega arith
number_positive PagesFull = omega arith
number_positive NoSuchTicket = omega arith
number_positive OutOfTurn = omega arith
number_positive NoSuchPage = omega arith
number_positive AlreadyPut = omega arith
number_positive PageLength = omega arith
number_positive NotAllPut = omega arith
number_positive PastEnd = omega arith
number_positive BlobFull = omega arith
number_positive NodesFull = omega arith
number_positive NotPublished = omega arith
number_positive OutsideSnapshot = omega arith
number_positive BufferTooShort = omega arith
number_positive Damaged = omega arith
number_positive NoSuchLine = omega arith
number_positive LinesFull = omega arith
number_positive NoSuchMinute = omega arith
number_positive WrongWindow = omega arith
number_positive TooManyWindows = omega arith

answered_suc : {A : Type 0} (k : ℕ) (x : A) → 0 < k → answered k x ≡ Err k
answered_suc zero x h = absurd (omega arith)
answered_suc (suc k) x h = refl

pub number_refuses : {A : Type 0} (e : Refusal) (x : A) → answered (number e) x ≡ Err (number e)
number_refuses e x = answered_suc (number e) x (number_positive e)

pub number_stays : {A : Type 0} (e : Refusal) (was done : A) → unless (number e) was done ≡ was
number_stays e was done = unless-suc (number e) was done (number_positive e)

pub number_stands : (e : Refusal) (k : ℕ) → or_else (number e) k ≡ number e
number_stands e k = or_else-suc (number e) k (λ z. omega (arith, number_positive e))

-- The same where the number is given as k.
pub refused_by : {A : Type 0} (k : ℕ) (e : Refusal) (x : A) → number e ≡ k → answered k x ≡ Err (number e)
refused_by k e x is = rw (← is) (number_refuses e x)

pub stays_by : {A : Type 0} (k : ℕ) (e : Refusal) (was done : A) → number e ≡ k → unless k was done ≡ was
stays_by k e was done is = rw (← is) (number_stays e was done)

pub ruleset refusals = (number_refuses, number_stays, number_stands, refused_by, stays_by)

-- What a number of the table's, 0 or not, says of a call, for `grind`.
pub answered_tells : {A : Type 0} (k : ℕ) (x : A) → ((answered k x ≡ Ok x) × (k ≡ 0)) ⊎ ((answered k x ≡ Err k) × (0 < k))
answered_tells zero x = inl (refl, refl)
answered_tells (suc k) x = inr (refl, omega arith)

pub unless_tells : {A : Type 0} (k : ℕ) (was done : A) → ((unless k was done ≡ done) × (k ≡ 0)) ⊎ ((unless k was done ≡ was) × (0 < k))
unfolding unless
unless_tells zero was done = inl (refl, refl)
unless_tells (suc k) was done = inr (refl, omega arith)

pub ruleset tells = (answered_tells, unless_tells)
