-- Slip 1's isolation of lines, over the model: what is done on other lines reaches a line's answers only through the numbers, places and refusals that the
-- request lists. Two runs are compared, each of a line of its own. Tickets have other numbers in the two: two lists of ticket numbers match them, so that the k-th of
-- the first list is in the first run what the k-th of the second is in the second run. All other tickets belong to one of the runs alone.
use Rattle.std.specs.Prelude.{◌≡◌, ◌⊎◌, Bool, true, false, not, ◌&&◌, ◌||◌, List, [], ◌∷◌, ◌++◌, ℕ, suc, ◌+◌, ◌^◌, ◌≤◌, ◌<◌, leb, ltb, eqb, length, Option}
use Rattle.tree.specs.Tree.{nth}
use Rattle.table.specs.Table.{unless}
use Rattle.model.specs.Calls.{Call, BEGIN, PUT, WEAVE, SETWINDOWS, on, Act, WRITE, APPEND, PUBLISH, BRANCH, ask, Query, Answer, refused, ticket_is, node_is, line_is, part_is, Outcome, says}
use Rattle.model.specs.History.{Page, Ticket, Version, History, no_ticket, ticket_at, version_at}
use Rattle.model.specs.Model.{Limits, Model, no_model, update_at, history, ticket_update, number_in}
use Rattle.model.specs.Layout.{slot_number}
use Rattle.model.specs.OnModel.{either, begin_number, on_model}
use Rattle.model.specs.Run.{run}

-- ---- tickets

-- The version that ticket t got, where it has one.
abbrev pub version_of : Model → ℕ → Version
version_of m t = update_at m (ticket_update m t)

-- Ticket t is assigned on line l; on another one.
abbrev pub here : ℕ → Model → ℕ → Bool
here l m t = not (eqb (ticket_update m t) 0) && eqb (version_of m t).line l

abbrev pub elsewhere : ℕ → Model → ℕ → Bool
elsewhere l m t = not (eqb (ticket_update m t) 0) && not (eqb (version_of m t).line l)

-- The number of the version that ticket t got on line l; 0 where it is not assigned there.
abbrev pub own_number : ℕ → Model → ℕ → ℕ
own_number l m t = either (here l m t) (version_of m t).number 0

-- There is no ticket t.
abbrev pub absent : List Ticket → ℕ → Bool
absent ks t = eqb t 0 || ltb (length ks) t

-- Ticket t is one of these.
unfoldable pub among : List ℕ → ℕ → Bool
among [] t = false
among (x ∷ xs) t = eqb x t || among xs t

-- These are numbers of tickets, none of them twice.
pub record Tickets (ts : List ℕ) (ks : List Ticket) : Type 0 where
  pub there : (k : ℕ) → 0 < k → k ≤ length ts → absent ks (nth 0 ts k) ≡ false
  pub once : (j k : ℕ) → 0 < j → j ≤ length ts → 0 < k → k ≤ length ts → nth 0 ts j ≡ nth 0 ts k → j ≡ k

-- Tickets of two runs, matched one to one: the k-th of the first list has the same pages put as the k-th of the second.
pub record Matched (ts ts' : List ℕ) (ks ks' : List Ticket) : Type 0 where
  pub tickets : Tickets ts ks
  pub tickets' : Tickets ts' ks'
  pub count : length ts ≡ length ts'
  pub slots : (k : ℕ) → (nth no_ticket ks (nth 0 ts k)).slots ≡ (nth no_ticket ks' (nth 0 ts' k)).slots

-- ---- lines

-- A version without its numbers: the first page of its update, the size in pages after it, and the pages put.
pub record Written : Type 0 where
  pub f : ℕ
  pub size : ℕ
  pub slots : List (Option Page)

-- Version v of a history, and the woven count of its ticket.
abbrev pub written_at : History → ℕ → Written
written_at h v = let x = version_at h v in record { f = x.f; size = x.size; slots = (ticket_at h x.ticket).slots }

abbrev pub woven_at : History → ℕ → ℕ
woven_at h v = (ticket_at h (version_at h v).ticket).woven

-- Two lines show the same versions up to v.
abbrev pub SameUpTo : ℕ → History → History → Type 0
SameUpTo v h h' = (w : ℕ) → w ≤ v → written_at h w ≡ written_at h' w

-- Two lines show the same versions, woven as far and published as far.
pub record SameLine (h h' : History) : Type 0 where
  pub count : length h.versions ≡ length h'.versions
  pub versions : (v : ℕ) → written_at h v ≡ written_at h' v
  pub woven : (v : ℕ) → woven_at h v ≡ woven_at h' v
  pub published : h.published ≡ h'.published

-- Where lines l and l' have both begun they are the same; matched tickets got the same versions of them; and the site has the same windows, which belong to no line.
pub record Match (l l' : ℕ) (ts ts' : List ℕ) (m m' : Model) : Type 0 where
  pub matched : Matched ts ts' m.tickets m'.tickets
  pub own : (k : ℕ) → own_number l m (nth 0 ts k) ≡ own_number l' m' (nth 0 ts' k)
  pub lines : l < length m.lines → l' < length m'.lines → SameLine (history m l) (history m' l')
  pub windows : m.windows ≡ m'.windows

-- ---- calls

-- A where the test holds; where it does not, nothing.
abbrev pub Given : Bool → Type 0 → Type 0
Given true A = A
Given false A = Unit

-- Where line l begins by a call, from m to m₁, and l' has begun in m', they are the same: the versions that they share with others are matched.
abbrev pub BeginsSame : ℕ → ℕ → Model → Model → Model → Type 0
BeginsSame l l' m m₁ m' = Given (leb (length m.lines) l && ltb l (length m₁.lines) && ltb l' (length m'.lines)) (SameLine (history m₁ l) (history m' l'))

-- A call that may stand in the list of line l alone, where these tickets are matched: BEGIN of a ticket that is not to be matched, PUT of one that is not, WEAVE of one
-- that is not assigned on l, every call on another line, and BRANCH on any line.
pub data Aside (L : Limits) (l l' : ℕ) (ts : List ℕ) (m m' : Model) : Call → Type 0 where
  new_ticket : {n : ℕ} → Aside L l l' ts m m' (BEGIN n)
  other_put : {t i : ℕ} {bytes : List ℕ} → among ts t ≡ false → Aside L l l' ts m m' (PUT t i bytes)
  other_weave : {t : ℕ} → here l m t ≡ false → Aside L l l' ts m m' (WEAVE t)
  other_line : {k : ℕ} {a : Act} → eqb k l ≡ false → BeginsSame l l' m (on_model L m (on k a)).0 m' → Aside L l l' ts m m' (on k a)
  new_line : {k v : ℕ} → BeginsSame l l' m (on_model L m (on k (BRANCH v))).0 m' → Aside L l l' ts m m' (on k (BRANCH v))

module _ (l l' : ℕ) (ts ts' : List ℕ) (m m' : Model) where
  -- Two ticket numbers that mean the same: of matched tickets, or of none in either run.
  pub data SameTicket : ℕ → ℕ → Type 0 where
    kth : (k : ℕ) → SameTicket (nth 0 ts k) (nth 0 ts' k)
    neither : {t t' : ℕ} → absent m.tickets t ≡ true → absent m'.tickets t' ≡ true → SameTicket t t'

  -- Two calls, other than BEGIN, that are the same with line and ticket matched, and the tickets that they name, 0 for none. (WEAVE of a ticket assigned elsewhere is no call
  -- of this line: see `Aside`.)
  pub data SameCall : ℕ → ℕ → Call → Call → Type 0 where
    put : {t t' : ℕ} → SameTicket t t' → (i : ℕ) (bytes : List ℕ) → SameCall t t' (PUT t i bytes) (PUT t' i bytes)
    weave : {t t' : ℕ} → SameTicket t t' → elsewhere l m t ≡ false → elsewhere l' m' t' ≡ false → SameCall t t' (WEAVE t) (WEAVE t')
    set_windows : (x : List ℕ) → SameCall 0 0 (SETWINDOWS x) (SETWINDOWS x)
    write : {t t' : ℕ} → SameTicket t t' → (f : ℕ) → SameCall t t' (on l (WRITE t f)) (on l' (WRITE t' f))
    append : {t t' : ℕ} → SameTicket t t' → SameCall t t' (on l (APPEND t)) (on l' (APPEND t'))
    publish : (minute : ℕ) → SameCall 0 0 (on l (PUBLISH minute)) (on l' (PUBLISH minute))
    branch : (v : ℕ) → SameCall 0 0 (on l (BRANCH v)) (on l' (BRANCH v))
    query : (q : Query) → SameCall 0 0 (on l (ask q)) (on l' (ask q))

-- ---- answers

-- The first page number of ticket t.
abbrev pub first_number : Model → ℕ → ℕ
first_number m t = slot_number m t 0

-- Refusals 5, 6, 15, 20 and 21.
abbrev pub listed : ℕ → Bool
listed r = eqb r 5 || eqb r 6 || eqb r 15 || eqb r 20 || eqb r 21

-- The answer to a call of ticket t is a refusal of the request's list: one of these; 8 for a ticket assigned elsewhere; or the empty part, since VIEW tells no number, of a
-- line that has not begun.
pub data Excused (l : ℕ) (m : Model) (t : ℕ) : Answer → Type 0 where
  by_list : {r : ℕ} → listed r ≡ true → Excused l m t (refused r)
  assigned : elsewhere l m t ≡ true → Excused l m t (refused 8)
  not_begun : leb (length m.lines) l ≡ true → Excused l m t (part_is [])

-- An answer that tells numbers which are matched: a new ticket's, a new line's, or those of a node.
pub data Numbered : Answer → Type 0 where
  of_ticket : {t : ℕ} → Numbered (ticket_is t)
  of_line : {k : ℕ} → Numbered (line_is k)
  of_node : {v p s x y left : ℕ} → Numbered (node_is v p s x y left)

module _ (l l' : ℕ) (m m' : Model) where
  -- Two numbers, line × 65,536 + version, of the same version of the lines.
  pub data SameVersion : ℕ → ℕ → Type 0 where
    version : (v : ℕ) → SameVersion (number_in (history m l) v) (number_in (history m' l') v)

  -- Two answers to calls of tickets t and t' that are the same with the numbers matched: in every word, where they tell none of these; new tickets; new lines; inner nodes of the
  -- same versions; and leaves of the same page of their tickets.
  pub data SameAnswer (t t' : ℕ) : Answer → Answer → Type 0 where
    word : {a : Answer} → (Numbered a → ⊥) → SameAnswer t t' a a
    ticket : SameAnswer t t' (ticket_is (suc (length m.tickets))) (ticket_is (suc (length m'.tickets)))
    line : {k k' : ℕ} → SameAnswer t t' (line_is k) (line_is k')
    inner : {v v' x x' y y' : ℕ} → SameVersion v v' → SameVersion x x' → SameVersion y y' → (p h left : ℕ)
        → SameAnswer t t' (node_is v p (2 ^ suc h) x y left) (node_is v' p (2 ^ suc h) x' y' left)
    leaf : {v v' : ℕ} → SameVersion v v' → (p i left : ℕ)
        → SameAnswer t t' (node_is v p 1 (first_number m t + i) 0 left) (node_is v' p 1 (first_number m' t' + i) 0 left)

  -- What calls give back is the same: the answer, with the numbers matched, and READ's buffer.
  abbrev pub Same : ℕ → ℕ → Outcome → Outcome → Type 0
  Same t t' o o' = SameAnswer t t' o.answer o'.answer × (o.buffer ≡ o'.buffer)

  -- Two calls give back the same, or one of the answers is a refusal of the request's list; and where they give back the same, what follows holds.
  abbrev pub Compare : ℕ → ℕ → Outcome → Outcome → Type 0 → Type 0
  Compare t t' o o' more = (Same t t' o o' ⊎ (Excused l m t o.answer ⊎ Excused l' m' t' o'.answer)) × (Same t t' o o' → more)

-- ---- two lists of calls

-- The model after a list of calls from FORMAT on.
abbrev pub after : Limits → List Call → Model
after L cs = run (on_model L) no_model cs

-- What one call more gives back, by the model.
abbrev pub model_gives : Limits → List Call → Call → Outcome
model_gives L cs c = (on_model L (after L cs) c).1

module _ (L : Limits) where
  -- The matched tickets after BEGIN n in both lists: one more where it gives one.
  abbrev pub one_more : Model → ℕ → List ℕ → List ℕ
  one_more m n ts = unless (begin_number L m n) ts (ts ++ suc (length m.tickets) ∷ [])

  -- Two lists, each after the calls made before it, that differ only in calls of other lines (than l in the first, than l' in the second).
  pub data Twins (l l' : ℕ) : List ℕ → List ℕ → List Call → List Call → List Call → List Call → Type 0 where
    end : {ts ts' : List ℕ} {before before' : List Call} → Twins l l' ts ts' before before' [] []
    first : {ts ts' : List ℕ} {before before' : List Call} {c : Call} {cs cs' : List Call} → Aside L l l' ts (after L before) (after L before') c
        → Twins l l' ts ts' (before ++ c ∷ []) before' cs cs' → Twins l l' ts ts' before before' (c ∷ cs) cs'
    second : {ts ts' : List ℕ} {before before' : List Call} {c : Call} {cs cs' : List Call} → Aside L l' l ts' (after L before') (after L before) c
        → Twins l l' ts ts' before (before' ++ c ∷ []) cs cs' → Twins l l' ts ts' before before' cs (c ∷ cs')
    begin : {ts ts' : List ℕ} {before before' : List Call} (n : ℕ) {cs cs' : List Call}
        → Twins l l' (one_more (after L before) n ts) (one_more (after L before') n ts') (before ++ BEGIN n ∷ []) (before' ++ BEGIN n ∷ []) cs cs'
        → Twins l l' ts ts' before before' (BEGIN n ∷ cs) (BEGIN n ∷ cs')
    both : {ts ts' : List ℕ} {before before' : List Call} {t t' : ℕ} {c c' : Call} {cs cs' : List Call}
        → SameCall l l' ts ts' (after L before) (after L before') t t' c c'
        → Twins l l' ts ts' (before ++ c ∷ []) (before' ++ c' ∷ []) cs cs' → Twins l l' ts ts' before before' (c ∷ cs) (c' ∷ cs')

  -- `gives` is what a call gives back after a list of calls from FORMAT on: the model's, or a store's.
  module _ (gives : List Call → Call → Outcome) where
    -- The line's answers, to the calls that both lists have, agree up to the first that a refusal of the request's list changes; where there is no such answer, the lines match
    -- at the end.
    unfoldable pub Agree : {l l' : ℕ} {ts ts' : List ℕ} {before before' cs cs' : List Call} → Twins l l' ts ts' before before' cs cs' → Type 0
    Agree {l = l} {l' = l'} {ts = ts} {ts' = ts'} {before = b} {before' = b'} end = Match l l' ts ts' (after L b) (after L b')
    Agree (first a w) = Agree w
    Agree (second a w) = Agree w
    Agree {l = l} {l' = l'} {before = b} {before' = b'} (begin n w) = Compare l l' (after L b) (after L b') 0 0 (gives b (BEGIN n)) (gives b' (BEGIN n)) (Agree w)
    Agree {l = l} {l' = l'} {before = b} {before' = b'} (both {t = t} {t' = t'} {c = c} {c' = c'} s w) =
        Compare l l' (after L b) (after L b') t t' (gives b c) (gives b' c') (Agree w)

-- ---- the theorem

-- Isolation of the lines in what calls give back.
pub record IsolatedBy (L : Limits) (gives : List Call → Call → Outcome) : Type 0 where
  -- From states in which the lines match, of two lists that differ only in calls of other lines, the line's answers agree.
  pub agree : (l l' : ℕ) (ts ts' : List ℕ) (before before' : List Call) → Match l l' ts ts' (after L before) (after L before')
      → (cs cs' : List Call) (w : Twins L l l' ts ts' before before' cs cs') → Agree L gives w
  -- A line matches itself, with any tickets matched: line 0 right after FORMAT, a line that has not begun, and any line where both lists go on from one.
  pub itself : (l : ℕ) (ts : List ℕ) (before : List Call) → Tickets ts (after L before).tickets → Match l l ts ts (after L before) (after L before)
  -- Lines that begin from version v of lines that show the same versions up to it match, with any tickets matched; the sites have the same windows.
  pub begins : (l l' : ℕ) (ts ts' : List ℕ) (before before' : List Call) → Matched ts ts' (after L before).tickets (after L before').tickets
      → (after L before).windows ≡ (after L before').windows
      → (v k k' : ℕ) → SameUpTo v (history (after L before) l) (history (after L before') l')
      → gives before (on l (BRANCH v)) ≡ says (line_is k) → gives before' (on l' (BRANCH v)) ≡ says (line_is k')
      → Match k k' ts ts' (after L (before ++ on l (BRANCH v) ∷ [])) (after L (before' ++ on l' (BRANCH v) ∷ []))

-- The theorem, of the model, and of any store that gives back what the model does.
abbrev pub Isolated : Type 0
Isolated = (L : Limits) (gives : List Call → Call → Outcome) → ((cs : List Call) (c : Call) → gives cs c ≡ model_gives L cs c) → IsolatedBy L gives
