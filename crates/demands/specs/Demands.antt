-- The three demands of document 01 as types, over any list of calls of all kinds from an accepted FORMAT, refused calls included, for every line; Slip 1's isolation of
-- lines; Slip 3's windows; and Slip 4's stamps.
use Rattle.std.specs.Prelude.{◌≡◌, true, List, [], ◌∷◌, ◌++◌, ℕ, ◌+◌, ◌*◌, ◌≤◌, ◌<◌, length, get_or, take, drop}
use Rattle.tree.specs.Tree.{height_of}
use Rattle.model.specs.Calls.{Call, on, PUBLISH, BRANCH, READ, SIZE, RECENT, STAMP, VIEW, Answer, refused, waiting, held, line_is, filled, size_is, recent_is, stamp_is, part_is, says}
use Rattle.model.specs.History.{History, version_at, updates}
use Rattle.model.specs.Model.{Limits, no_model, history, number_in}
use Rattle.model.specs.OnModel.{on_model}
use Rattle.model.specs.InTurn.{blob_at, bytes_at}
use Rattle.model.specs.Stamp.{stamp_at, LowestSame}
use Rattle.model.specs.Snapshot.{tree_in, place_of_number, snapshot_at}
use Rattle.model.specs.Run.{outcomes, model_after}
use Rattle.model.specs.Due.{publishes, Open, AllOpen, last_due}
use Rattle.isolation.specs.Isolation.{IsolatedBy}
use Rattle.windows.specs.Windows.{inside_some}
use Rattle.versions.specs.Store.{Areas}
use Rattle.format.specs.Format.{format_number}
use Rattle.demands.specs.Run.{on_store, fresh_of, formatted_state, store_after, asked}

-- FORMAT of these limits accepts the areas.
abbrev pub Accepted : Limits → Areas → Type 0
Accepted L a = format_number (fresh_of L) a ≡ 0

-- An answer that is neither 3 nor 19.
pub record NoFault (a : Answer) : Type 0 where
  pub not3 : a ≡ refused 3 → ⊥
  pub not19 : a ≡ refused 19 → ⊥

-- What line l reads as after a list of calls.
abbrev pub history_after : Limits → List Call → ℕ → History
history_after L cs l = history (model_after L cs) l

-- The line has begun, and its version k is published.
pub record Published (L : Limits) (cs : List Call) (l k : ℕ) : Type 0 where
  pub line : l < length (model_after L cs).lines
  pub upto : k ≤ (history_after L cs l).published

module _ (L : Limits) (a : Areas) where
  -- Demand 1, over lists (call by call it is the promises): every answer, refusal numbers included, and every buffer is the model's; 3 and 19 never arise.
  pub record AnswersAsModel (cs : List Call) : Type 0 where
    pub same : outcomes on_store (formatted_state L a) cs ≡ outcomes (on_model L) no_model cs
    pub sound : (i : ℕ) → i < length cs → NoFault (get_or (outcomes on_store (formatted_state L a) cs) i (says waiting)).answer

  -- Demand 2: published version k of line l reads, byte for byte, as the updates that the line shows as its versions 1 .. k applied in turn to an empty blob; its size
  -- agrees; a page's stamp is the lowest version since which it has had its bytes; its tree has exactly the nodes, child numbers and page numbers of the tree rule, a node
  -- lying where the accepted ASSIGNs and their counts put it.
  pub record ReadsInTurn (cs : List Call) (l k : ℕ) : Type 0 where
    pub reads : (offset len : ℕ) (buffer : List ℕ) → offset + len ≤ L.size * (version_at (history_after L cs l) k).size → len ≤ length buffer
        → asked (store_after L a cs) (on l (READ k offset len buffer))
        ≡ record { answer = filled; buffer = take len (drop offset (bytes_at (history_after L cs l) k)) ++ drop len buffer }
    pub views : (p : ℕ) → p < (version_at (history_after L cs l) k).size
        → asked (store_after L a cs) (on l (VIEW k p)) ≡ says (part_is (get_or (blob_at (history_after L cs l) k) p []))
    pub stamps : (p : ℕ) → p < (version_at (history_after L cs l) k).size
        → asked (store_after L a cs) (on l (STAMP k p)) ≡ says (stamp_is (stamp_at (history_after L cs l) k p))
    pub lowest : (p : ℕ) → p < (version_at (history_after L cs l) k).size → LowestSame (history_after L cs l) (stamp_at (history_after L cs l) k p) k p
    pub sizes : asked (store_after L a cs) (on l (SIZE k)) ≡ says (size_is (L.size * (version_at (history_after L cs l) k).size))
    pub whole : length (bytes_at (history_after L cs l) k) ≡ L.size * (version_at (history_after L cs l) k).size
    pub tree : let h = history_after L cs l in
        tree_in (place_of_number (model_after L cs)) (store_after L a cs).areas.nodes (height_of (updates h) k) (number_in h k) 0
        ≡ (snapshot_at (model_after L cs) l k).tree

  -- All of "Compared", for every line and every k up to its number published.
  pub record Compared (cs : List Call) (l : ℕ) : Type 0 where
    pub recent : asked (store_after L a cs) (on l RECENT) ≡ says (recent_is (history_after L cs l).published)
    pub versions : (k : ℕ) → k ≤ (history_after L cs l).published → ReadsInTurn cs l k

  -- Later calls, on whatever line, never change a published version: neither what stands in the one-after-the-other run, nor what the store gives back for it.
  pub record Kept (cs more : List Call) (l k : ℕ) : Type 0 where
    pub published : Published L (cs ++ more) l k
    pub snapshot : snapshot_at (model_after L (cs ++ more)) l k ≡ snapshot_at (model_after L cs) l k
    pub reads : (offset len : ℕ) (buffer : List ℕ)
        → asked (store_after L a (cs ++ more)) (on l (READ k offset len buffer)) ≡ asked (store_after L a cs) (on l (READ k offset len buffer))
    pub views : (p : ℕ) → asked (store_after L a (cs ++ more)) (on l (VIEW k p)) ≡ asked (store_after L a cs) (on l (VIEW k p))
    pub stamps : (p : ℕ) → asked (store_after L a (cs ++ more)) (on l (STAMP k p)) ≡ asked (store_after L a cs) (on l (STAMP k p))
    pub sizes : asked (store_after L a (cs ++ more)) (on l (SIZE k)) ≡ asked (store_after L a cs) (on l (SIZE k))

  -- PUBLISH of a line repeated, at whatever minutes, until it says "waiting": then the line's number published is its last version before its first incomplete one,
  -- or its last assigned. And at accepted minutes outside the windows it comes to say so, after as many calls as the line has versions.
  pub record Reaches (cs : List Call) (l : ℕ) : Type 0 where
    pub exact : (minutes : List ℕ) (now : ℕ) → asked (store_after L a (cs ++ publishes l minutes)) (on l (PUBLISH now)) ≡ says waiting
        → asked (store_after L a (cs ++ publishes l minutes)) (on l RECENT) ≡ says (recent_is (last_due (history_after L cs l)))
    pub comes : (minutes : List ℕ) (now : ℕ) → AllOpen (model_after L cs).windows minutes → Open (model_after L cs).windows now
        → length (history_after L cs l).versions ≤ length minutes
        → asked (store_after L a (cs ++ publishes l minutes)) (on l (PUBLISH now)) ≡ says waiting

  -- Slip 3: at an accepted minute PUBLISH is held exactly where the minute is inside a window of the list that was last accepted, due or not, and then nothing moves.
  -- That only the minute given decides, also when the clock is set back, follows from the model: an answer is a function of the state and the call, and no state has a
  -- minute in it.
  pub record Held (cs : List Call) (l minute : ℕ) : Type 0 where
    pub holds : l < length (model_after L cs).lines → minute ≤ 10079 → inside_some (model_after L cs).windows minute ≡ true
        → asked (store_after L a cs) (on l (PUBLISH minute)) ≡ says held
    pub only : asked (store_after L a cs) (on l (PUBLISH minute)) ≡ says held → inside_some (model_after L cs).windows minute ≡ true
    pub still : asked (store_after L a cs) (on l (PUBLISH minute)) ≡ says held → store_after L a (cs ++ on l (PUBLISH minute) ∷ []) ≡ store_after L a cs

  -- From version u up to version v of a line there is one below v in which VIEW of the page hands out other bytes than in v, or none.
  pub record Differed (cs : List Call) (l u v p : ℕ) : Type 0 where
    pub at : ℕ
    pub from : u ≤ at
    pub below : at < v
    pub other : asked (store_after L a cs) (on l (VIEW at p)) ≡ asked (store_after L a cs) (on l (VIEW v p)) → ⊥

  -- Slip 4, a truck's rule, in what the calls give back: STAMP v of page p answers w. A truck that has the page as of a version from w to v has its bytes, and so where two
  -- versions have the same stamp; and of a version below w it can't know, since in between the page was another one, or was not there.
  pub record Fetches (cs : List Call) (l v p w : ℕ) : Type 0 where
    pub upto : w ≤ v
    pub same : (u : ℕ) → w ≤ u → u ≤ v → asked (store_after L a cs) (on l (VIEW u p)) ≡ asked (store_after L a cs) (on l (VIEW v p))
    pub alike : (u : ℕ) → asked (store_after L a cs) (on l (STAMP u p)) ≡ says (stamp_is w)
        → asked (store_after L a cs) (on l (VIEW u p)) ≡ asked (store_after L a cs) (on l (VIEW v p))
    pub differed : (u : ℕ) → u < w → Differed cs l u v p

  -- A line that begins from version v of line l has v published at once, and reads up to v as line l does.
  pub record BeginsFrom (cs : List Call) (l v k : ℕ) : Type 0 where
    pub recent : asked (store_after L a (cs ++ on l (BRANCH v) ∷ [])) (on k RECENT) ≡ says (recent_is v)
    pub reads : (w offset len : ℕ) (buffer : List ℕ) → w ≤ v
        → asked (store_after L a (cs ++ on l (BRANCH v) ∷ [])) (on k (READ w offset len buffer)) ≡ asked (store_after L a cs) (on l (READ w offset len buffer))
    pub views : (w p : ℕ) → w ≤ v → asked (store_after L a (cs ++ on l (BRANCH v) ∷ [])) (on k (VIEW w p)) ≡ asked (store_after L a cs) (on l (VIEW w p))
    pub stamps : (w p : ℕ) → w ≤ v → asked (store_after L a (cs ++ on l (BRANCH v) ∷ [])) (on k (STAMP w p)) ≡ asked (store_after L a cs) (on l (STAMP w p))
    pub sizes : (w : ℕ) → w ≤ v → asked (store_after L a (cs ++ on l (BRANCH v) ∷ [])) (on k (SIZE w)) ≡ asked (store_after L a cs) (on l (SIZE w))

-- Demand 3, one claim about the whole list, for every line that has begun.
pub record ThirdDemand (L : Limits) (a : Areas) (cs : List Call) : Type 0 where
  pub answers : AnswersAsModel L a cs
  pub compared : (l : ℕ) → l < length (model_after L cs).lines → Compared L a cs l
  pub kept : (more : List Call) (l k : ℕ) → Published L cs l k → Kept L a cs more l k
  pub reaches : (l : ℕ) → l < length (model_after L cs).lines → Reaches L a cs l
  pub held : (l minute : ℕ) → Held L a cs l minute
  pub fetches : (l v p w : ℕ) → asked (store_after L a cs) (on l (STAMP v p)) ≡ says (stamp_is w) → Fetches L a cs l v p w
  pub begins : (l v k : ℕ) → asked (store_after L a cs) (on l (BRANCH v)) ≡ says (line_is k) → BeginsFrom L a cs l v k

-- The theorem owed: for any limits and areas that FORMAT accepts, and any list of calls.
abbrev pub Demanded : Type 0
Demanded = (L : Limits) (a : Areas) → Accepted L a → (cs : List Call) → ThirdDemand L a cs

-- Slip 1's theorem, over the calls of a store: what is done on other lines reaches a line's answers only through what the request lists.
abbrev pub Isolated : Type 0
Isolated = (L : Limits) (a : Areas) → Accepted L a → IsolatedBy L (λ cs c. asked (store_after L a cs) c)
