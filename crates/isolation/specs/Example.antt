-- Lists that differ only in calls of other lines, by computation: line 0 alone, and line 0 while a planner begins line 1 and works there with tickets of its own; and, for
-- each refusal that the request lists, two lists in which it is the first difference.
-- The theorems that compute them stand in proofs/Example.
use Rattle.std.specs.Prelude.{◌≡◌, List, [], ◌∷◌, ◌++◌, ℕ}
use Rattle.model.specs.Calls.{Call, BEGIN, PUT, WEAVE, on, WRITE, APPEND, PUBLISH, BRANCH, READ, Outcome}
use Rattle.model.specs.Example.{limits, page_of}
use Rattle.model.specs.OnModel.{on_model}
use Rattle.model.specs.Run.{outcomes}
use Rattle.model.specs.History.{History}
use Rattle.model.specs.Model.{Limits, history}
use Rattle.isolation.specs.Isolation.{Twins, after}

-- ---- line 0, and a planner on line 1

-- A page as version 1 of line 0.
unfoldable pub before : List Call
before = BEGIN 1 ∷ PUT 1 0 (page_of 10) ∷ on 0 (WRITE 1 0) ∷ WEAVE 1 ∷ on 0 (PUBLISH 0) ∷ []

unfoldable pub alone : List Call
alone = BEGIN 1 ∷ PUT 2 0 (page_of 20) ∷ on 0 (APPEND 2) ∷ WEAVE 2 ∷ WEAVE 2 ∷ on 0 (PUBLISH 0) ∷ on 0 (READ 2 15 2 (7 ∷ 7 ∷ [])) ∷ []

-- The same, while the planner begins line 1, puts and appends the page of a ticket of its own, weaves it and publishes it. Ticket 2 is the planner's here; line 0's is ticket 3.
unfoldable pub beside : List Call
beside =
    on 0 (BRANCH 1)
    ∷ BEGIN 1
    ∷ BEGIN 1
    ∷ PUT 2 0 (page_of 30)
    ∷ PUT 3 0 (page_of 20)
    ∷ on 1 (APPEND 2)
    ∷ on 0 (APPEND 3)
    ∷ WEAVE 2
    ∷ WEAVE 3
    ∷ WEAVE 2
    ∷ on 1 (PUBLISH 0)
    ∷ WEAVE 3
    ∷ on 0 (PUBLISH 0)
    ∷ on 0 (READ 2 15 2 (7 ∷ 7 ∷ []))
    ∷ []

-- ---- line 1 from FORMAT on, begun from version 1 of line 0

-- The planner's line and its update, after the live line's version 1; and the same where the planner's ticket is begun before its line, and the live line has gone on to a
-- version 2, which is woven meanwhile.
unfoldable pub early : List Call
early = before ++ on 0 (BRANCH 1) ∷ BEGIN 1 ∷ PUT 2 0 (page_of 20) ∷ on 1 (APPEND 2) ∷ WEAVE 2 ∷ []

unfoldable pub ahead : List Call
ahead = before ++ BEGIN 1 ∷ PUT 2 0 (page_of 30) ∷ on 0 (APPEND 2) ∷ BEGIN 1 ∷ []

unfoldable pub late : List Call
late = ahead ++ on 0 (BRANCH 1) ∷ PUT 3 0 (page_of 20) ∷ on 1 (APPEND 3) ∷ WEAVE 2 ∷ WEAVE 3 ∷ []

-- Line 1 begins with the same version in both.
unfoldable pub line_early : History
line_early = history (after limits (before ++ on 0 (BRANCH 1) ∷ BEGIN 1 ∷ [])) 1

unfoldable pub line_late : History
line_late = history (after limits (ahead ++ on 0 (BRANCH 1) ∷ [])) 1

-- ---- the first difference

-- Two lists from FORMAT on, as line l has them, and what they give back.
pub record Differ (L : Limits) (l : ℕ) (cs cs' : List Call) (os os' : List Outcome) : Type 0 where
  pub twins : Twins L l l [] [] [] [] cs cs'
  pub given : outcomes (on_model L) (after L []) cs ≡ os
  pub given' : outcomes (on_model L) (after L []) cs' ≡ os'

-- Room for so many updates, pages and nodes.
abbrev pub room : ℕ → ℕ → ℕ → Limits
room updates pages nodes = record { size = 16; pages = pages; nodes = nodes; updates = updates }
