-- What the three demands give a client, over any areas that FORMAT accepts: by the theorem alone, since the areas are not given.
use Rattle.std.specs.Prelude.{◌≡◌, List, [], ◌∷◌, ◌++◌, ℕ, ◌+◌, ◌≤◌, ◌<◌, length, get_or, take, drop}
use Rattle.text.specs.Quoted.{text}
use Rattle.model.specs.Calls.{Call, PUT, SETWINDOWS, on, PUBLISH, BRANCH, READ, SIZE, RECENT, STAMP, VIEW, refused, waiting, held, line_is, filled, size_is, recent_is, stamp_is, part_is, Outcome, says}
use Rattle.model.specs.InTurn.{joined}
use Rattle.model.specs.Stamp.{SameFrom}
use Rattle.model.specs.Model.{Limits}
use Rattle.model.specs.OnModel.{on_model}
use Rattle.model.specs.Run.{outcomes, model_after}
use Rattle.model.specs.Due.{publishes}
use Rattle.model.specs.Snapshot.{Snapshot, no_page, leaf, inner, tree_in, place_of_number, snapshot_at}
use Rattle.model.specs.Example.{page_of}
use Rattle.model.specs.Stamps.{sends}
use Rattle.model.specs.Windows.{two_windows}
use Rattle.versions.specs.Store.{Areas}
use Rattle.format.specs.Format.{format_number}
use Rattle.demands.specs.Run.{on_store, fresh_of, formatted_state, store_after, asked}
use Rattle.demands.specs.Demands.{history_after}
use Rattle.demands.specs.Example as Example
use Rattle.uses.specs.Accepted.{limits, InAll}

-- Document 01's example has the document's answers.
abbrev pub ExampleAnswers : Type 0
ExampleAnswers = (a : Areas) → format_number (fresh_of Example.limits) a ≡ 0 → outcomes on_store (formatted_state Example.limits a) Example.calls ≡ Example.given

-- What any call gives back after any others is what the model does, and is neither 3 nor 19.
pub record Answers (L : Limits) (a : Areas) (cs : List Call) (c : Call) : Type 0 where
  pub same : asked (store_after L a cs) c ≡ (on_model L (model_after L cs) c).1
  pub not3 : (asked (store_after L a cs) c).answer ≡ refused 3 → ⊥
  pub not19 : (asked (store_after L a cs) c).answer ≡ refused 19 → ⊥

abbrev pub EveryAnswer : Type 0
EveryAnswer = (L : Limits) (a : Areas) → format_number (fresh_of L) a ≡ 0 → (cs : List Call) (c : Call) → Answers L a cs c

-- ---- one list of calls, on two lines

-- Version 1 of line 0, from which line 1 begins; version 2 of line 0; version 2 of line 1, with pages 1 and 2; its version 3, which sends page 2 again as it is, with page
-- 3. Then two windows, and a list that is refused; version 4 of line 1, complete and held, and version 5, with no node stored; and three calls that are refused.
unfoldable pub calls : List Call
calls =
    sends 0 1 0 (page_of 10 ∷ page_of 11 ∷ []) 3
    ++ on 0 (BRANCH 1)
    ∷ sends 0 2 0 (page_of 30 ∷ []) 2
    ++ sends 1 3 1 (page_of 21 ∷ page_of 22 ∷ []) 5
    ++ sends 1 4 2 (page_of 22 ∷ page_of 33 ∷ []) 4
    ++ SETWINDOWS two_windows
    ∷ SETWINDOWS (text "5,5\n")
    ∷ sends 1 5 0 (page_of 40 ∷ []) 3
    ++ sends 1 6 0 (page_of 50 ∷ []) 0
    ++ PUT 1 0 (page_of 9)
    ∷ on 2 (PUBLISH 20)
    ∷ on 0 (BRANCH 3)
    ∷ []

-- Versions 2 and 3 of line 1. Their leaf of page 0 is version 1's, which is line 0's.
unfoldable pub version2 : Snapshot
version2 = record {
  size = 3;
  blob = page_of 10 ∷ page_of 21 ∷ page_of 22 ∷ [];
  stamps = 1 ∷ 2 ∷ 2 ∷ [];
  tree =
      inner 65538 0 2 65538 65538
      (inner 65538 0 1 1 65538 (leaf 1 0 0 0) (leaf 65538 1 3 0))
      (inner 65538 2 1 65538 0 (leaf 65538 2 4 0) no_page);
}

unfoldable pub version3 : Snapshot
version3 = record {
  size = 4;
  blob = page_of 10 ∷ page_of 21 ∷ page_of 22 ∷ page_of 33 ∷ [];
  stamps = 1 ∷ 2 ∷ 2 ∷ 3 ∷ [];
  tree =
      inner 65539 0 2 65538 65539
      (inner 65538 0 1 1 65538 (leaf 1 0 0 0) (leaf 65538 1 3 0))
      (inner 65539 2 1 65539 65539 (leaf 65539 2 5 0) (leaf 65539 3 6 0));
}

-- Version v of line l reads as s, in what calls give back.
pub record ReadsAs (gives : Call → Outcome) (l v : ℕ) (s : Snapshot) : Type 0 where
  pub reads : (offset len : ℕ) (buffer : List ℕ) → offset + len ≤ length (joined s.blob) → len ≤ length buffer
      → gives (on l (READ v offset len buffer)) ≡ record { answer = filled; buffer = take len (drop offset (joined s.blob)) ++ drop len buffer }
  pub views : (p : ℕ) → p < s.size → gives (on l (VIEW v p)) ≡ says (part_is (get_or s.blob p []))
  pub stamps : (p : ℕ) → p < s.size → gives (on l (STAMP v p)) ≡ says (stamp_is (get_or s.stamps p 0))
  pub sizes : gives (on l (SIZE v)) ≡ says (size_is (length (joined s.blob)))

-- Both versions, on a line that has them.
pub record Both (gives : Call → Outcome) (l : ℕ) : Type 0 where
  pub second : ReadsAs gives l 2 version2
  pub third : ReadsAs gives l 3 version3

module _ (a : Areas) where
  -- What a call gives back after these calls, and after more.
  abbrev pub gives : Call → Outcome
  gives c = asked (store_after limits a calls) c

  abbrev pub later : List Call → Call → Outcome
  later more c = asked (store_after limits a (calls ++ more)) c

  -- Line 1 has three versions published, which read as above; the node area has the tree; and each page of version 3 has had its bytes since its stamp, and no longer.
  pub record Compared : Type 0 where
    pub recent : gives (on 1 RECENT) ≡ says (recent_is 3)
    pub both : Both gives 1
    pub tree : tree_in (place_of_number (model_after limits calls)) (store_after limits a calls).areas.nodes 2 65539 0 ≡ version3.tree
    pub since : (p : ℕ) → p < 4 → SameFrom (history_after limits calls 1) (get_or version3.stamps p 0) 3 p
    pub lowest : (p : ℕ) → p < 4 → (u : ℕ) → SameFrom (history_after limits calls 1) u 3 p → get_or version3.stamps p 0 ≤ u

  -- Whatever is called later, on whatever line: they read as before, the model has them as before, and no fewer are published.
  pub record Kept (more : List Call) : Type 0 where
    pub both : Both (later more) 1
    pub snapshot : snapshot_at (model_after limits (calls ++ more)) 1 3 ≡ version3
    pub recent : (n : ℕ) → later more (on 1 RECENT) ≡ says (recent_is n) → 3 ≤ n

  -- PUBLISH of line 1, at whatever minutes, until it says "waiting": version 4 is the last, since version 5 is not complete. At five minutes beside the windows it comes to
  -- say so.
  pub record Reaches : Type 0 where
    pub exact : (minutes : List ℕ) (now : ℕ) → later (publishes 1 minutes) (on 1 (PUBLISH now)) ≡ says waiting
        → later (publishes 1 minutes) (on 1 RECENT) ≡ says (recent_is 4)
    pub comes : later (publishes 1 (599 ∷ 660 ∷ 9999 ∷ 20 ∷ 21 ∷ [])) (on 1 (PUBLISH 20)) ≡ says waiting

  -- PUBLISH of either line at a window's last minute is held, and moves nothing; a minute later it is not.
  pub record Held : Type 0 where
    pub in_first : gives (on 1 (PUBLISH 659)) ≡ says held
    pub in_second : gives (on 0 (PUBLISH 19)) ≡ says held
    pub still : store_after limits a (calls ++ on 1 (PUBLISH 659) ∷ []) ≡ store_after limits a calls
    pub after_first : gives (on 1 (PUBLISH 660)) ≡ says held → ⊥
    pub after_second : gives (on 0 (PUBLISH 20)) ≡ says held → ⊥

  -- The stamps of pages 1 and 2 are 2 in versions 2 and 3: who has version 2 has page 2 of version 3, and who has version 3 has page 1 of version 2; version 1 has another
  -- page 1, and no page 2.
  pub record Fetches : Type 0 where
    pub upto : (w : ℕ) → gives (on 1 (STAMP 3 2)) ≡ says (stamp_is w) → w ≤ 3
    pub same : gives (on 1 (VIEW 2 2)) ≡ gives (on 1 (VIEW 3 2))
    pub alike : gives (on 1 (VIEW 3 1)) ≡ gives (on 1 (VIEW 2 1))
    pub changed : gives (on 1 (VIEW 1 1)) ≡ gives (on 1 (VIEW 3 1)) → ⊥
    pub new : gives (on 1 (VIEW 1 2)) ≡ gives (on 1 (VIEW 3 2)) → ⊥

  -- Line 2 begins from version 3 of line 1: it has that published at once, and reads as line 1 does.
  pub record Begins : Type 0 where
    pub begun : gives (on 1 (BRANCH 3)) ≡ says (line_is 2)
    pub recent : later (on 1 (BRANCH 3) ∷ []) (on 2 RECENT) ≡ says (recent_is 3)
    pub both : Both (later (on 1 (BRANCH 3) ∷ [])) 2

abbrev pub AllKept : Type 0
AllKept = InAll (λ a. (more : List Call) → Kept a more)
