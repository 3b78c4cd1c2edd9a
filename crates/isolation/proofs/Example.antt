-- Lists that differ only in calls of other lines, by computation: line 0 alone, and line 0 while a planner begins line 1 and works there with tickets of its own; and, for
-- each refusal that the request lists, two lists in which it is the first difference.
-- ---- line 0, and a planner on line 1
use Rattle.std.specs.Prelude.{◌≡◌, refl, [], ◌∷◌, ◌++◌, ℕ, zero, suc, replicate}
use Rattle.model.specs.Calls.{BEGIN, PUT, WEAVE, on, APPEND, BRANCH, RECENT, VIEW, read, recent, view, says, refused, ticket_is, put_done, version_is, node_is, published_is, line_is, filled, recent_is, part_is}
use Rattle.model.specs.Example.{computes, limits, page_of}
use Rattle.model.specs.OnModel.{on_model}
use Rattle.model.specs.Run.{run, outcomes}
use Rattle.isolation.specs.Isolation.{among, written_at, woven_at, SameLine, new_ticket, other_put, other_weave, other_line, new_line, kth, put, weave, append, publish, branch, query, Twins, end, first, second, begin, both, after}
use Rattle.isolation.specs.Example.{before, alone, beside, early, ahead, late, line_early, line_late, Differ, room}

pub twins : Twins limits 0 0 [] [] before before alone beside
unfolding computes run limits before alone beside among
twins =
    second (new_line tt) (second new_ticket (begin 1 (second (other_put refl) (both (put (kth 1) 0 (page_of 20)) (second (other_line refl tt) (both (append (kth 1)) (
    second (other_weave refl) (both (weave (kth 1) refl refl) (second (other_weave refl) (second (other_line refl tt) (both (weave (kth 1) refl refl) (
    both (publish 0) (both (query (read 2 15 2 (7 ∷ 7 ∷ []))) end)))))))))))))

-- Line 0's answers, as they come in the first list.
pub given : outcomes (on_model limits) (after limits before) alone
    ≡ says (ticket_is 2)
    ∷ says put_done
    ∷ says (version_is 2 2)
    ∷ says (node_is 2 0 2 1 2 1)
    ∷ says (node_is 2 1 1 1 0 0)
    ∷ says (published_is 2)
    ∷ record { answer = filled; buffer = 10 ∷ 20 ∷ [] }
    ∷ []
unfolding computes run limits before alone
given = refl

-- In the second they come between the planner's, the same but for the ticket's number and, in the leaf, that of its page.
pub given-beside : outcomes (on_model limits) (after limits before) beside
    ≡ says (line_is 1)
    ∷ says (ticket_is 2)
    ∷ says (ticket_is 3)
    ∷ says put_done
    ∷ says put_done
    ∷ says (version_is 2 2)
    ∷ says (version_is 2 2)
    ∷ says (node_is 65538 0 2 1 65538 1)
    ∷ says (node_is 2 0 2 1 2 1)
    ∷ says (node_is 65538 1 1 1 0 0)
    ∷ says (published_is 2)
    ∷ says (node_is 2 1 1 2 0 0)
    ∷ says (published_is 2)
    ∷ record { answer = filled; buffer = 10 ∷ 20 ∷ [] }
    ∷ []
unfolding computes run limits before beside
given-beside = refl

same-written : (v : ℕ) → written_at line_late v ≡ written_at line_early v
unfolding computes run limits before ahead line_early line_late
same-written zero = refl
same-written (suc zero) = refl
same-written (suc (suc v)) = refl

same-woven : (v : ℕ) → woven_at line_late v ≡ woven_at line_early v
unfolding computes run limits before ahead line_early line_late
same-woven zero = refl
same-woven (suc zero) = refl
same-woven (suc (suc v)) = refl

begun-same : SameLine line_late line_early
unfolding computes run limits before ahead line_early line_late
begun-same = record { count = refl; versions = same-written; woven = same-woven; published = refl }

pub planned : Twins limits 1 1 [] [] [] [] early late
unfolding computes run limits before ahead early late among line_early line_late
planned =
    first new_ticket (first (other_put refl) (first (other_line refl tt) (first (other_weave refl) (first (other_line refl tt) (first (new_line tt) (
    second new_ticket (second (other_put refl) (second (other_line refl tt) (second (other_weave refl) (second (other_line refl tt) (
    second new_ticket (second (other_put refl) (second (other_line refl tt) (begin 1 (second (new_line begun-same) (
    both (put (kth 1) 0 (page_of 20)) (both (append (kth 1)) (second (other_weave refl) (both (weave (kth 1) refl refl) end)))))))))))))))))))

pub given-early : outcomes (on_model limits) (after limits before) (on 0 (BRANCH 1) ∷ BEGIN 1 ∷ PUT 2 0 (page_of 20) ∷ on 1 (APPEND 2) ∷ WEAVE 2 ∷ [])
    ≡ says (line_is 1) ∷ says (ticket_is 2) ∷ says put_done ∷ says (version_is 2 2) ∷ says (node_is 65538 0 2 1 65538 1) ∷ []
unfolding computes run limits before
given-early = refl

pub given-late : outcomes (on_model limits) (after limits ahead) (on 0 (BRANCH 1) ∷ PUT 3 0 (page_of 20) ∷ on 1 (APPEND 3) ∷ WEAVE 2 ∷ WEAVE 3 ∷ [])
    ≡ says (line_is 1) ∷ says put_done ∷ says (version_is 2 2) ∷ says (node_is 2 0 2 1 2 1) ∷ says (node_is 65538 0 2 1 65538 1) ∷ []
unfolding computes run limits before ahead
given-late = refl

-- 5 and 6: the planner's ticket is the last, or its page is.
pub first-5 : Differ (room 1 8 8) 0 (BEGIN 1 ∷ []) (BEGIN 1 ∷ BEGIN 1 ∷ []) (says (ticket_is 1) ∷ []) (says (ticket_is 1) ∷ says (refused 5) ∷ [])
unfolding computes run
first-5 = record { twins = second new_ticket (begin 1 end); given = refl; given' = refl }

pub first-6 : Differ (room 8 1 8) 0 (BEGIN 1 ∷ []) (BEGIN 1 ∷ BEGIN 1 ∷ []) (says (ticket_is 1) ∷ []) (says (ticket_is 1) ∷ says (refused 6) ∷ [])
unfolding computes run
first-6 = record { twins = second new_ticket (begin 1 end); given = refl; given' = refl }

-- 15: the planner's update takes the last node.
pub first-15 : Differ (room 8 8 1) 0
    (BEGIN 1 ∷ PUT 1 0 (page_of 10) ∷ on 0 (APPEND 1) ∷ [])
    (on 0 (BRANCH 0) ∷ BEGIN 1 ∷ PUT 1 0 (page_of 20) ∷ on 1 (APPEND 1) ∷ BEGIN 1 ∷ PUT 2 0 (page_of 10) ∷ on 0 (APPEND 2) ∷ [])
    (says (ticket_is 1) ∷ says put_done ∷ says (version_is 1 1) ∷ [])
    (says (line_is 1) ∷ says (ticket_is 1) ∷ says put_done ∷ says (version_is 1 1) ∷ says (ticket_is 2) ∷ says put_done ∷ says (refused 15) ∷ [])
unfolding computes run among
first-15 = record {
  twins = second (new_line tt) (second new_ticket (second (other_put refl) (second (other_line refl tt) (begin 1 (both (put (kth 1) 0 (page_of 10)) (both (append (kth 1)) end))))));
  given = refl;
  given' = refl;
}

-- 8: the planner takes the ticket of line 0 for itself.
pub first-8 : Differ (room 8 8 8) 0
    (BEGIN 1 ∷ PUT 1 0 (page_of 10) ∷ on 0 (APPEND 1) ∷ [])
    (on 0 (BRANCH 0) ∷ BEGIN 1 ∷ PUT 1 0 (page_of 10) ∷ on 1 (APPEND 1) ∷ on 0 (APPEND 1) ∷ [])
    (says (ticket_is 1) ∷ says put_done ∷ says (version_is 1 1) ∷ [])
    (says (line_is 1) ∷ says (ticket_is 1) ∷ says put_done ∷ says (version_is 1 1) ∷ says (refused 8) ∷ [])
unfolding computes run among
first-8 = record {
  twins = second (new_line tt) (begin 1 (both (put (kth 1) 0 (page_of 10)) (second (other_line refl tt) (both (append (kth 1)) end))));
  given = refl;
  given' = refl;
}

-- 21: the planner begins the sixteenth line from line 1.
pub first-21 : Differ (room 8 8 8) 0
    (on 0 (BRANCH 0) ∷ [])
    (on 0 (BRANCH 0) ∷ replicate 14 (on 1 (BRANCH 0)) ++ on 0 (BRANCH 0) ∷ [])
    (says (line_is 1) ∷ [])
    (says (line_is 1) ∷ says (line_is 2) ∷ says (line_is 3) ∷ says (line_is 4) ∷ says (line_is 5) ∷ says (line_is 6) ∷ says (line_is 7) ∷ says (line_is 8)
    ∷ says (line_is 9) ∷ says (line_is 10) ∷ says (line_is 11) ∷ says (line_is 12) ∷ says (line_is 13) ∷ says (line_is 14) ∷ says (line_is 15) ∷ says (refused 21) ∷ [])
unfolding computes run
first-21 = record {
  twins =
      second (new_line tt) (second (new_line tt) (second (new_line tt) (second (new_line tt) (second (new_line tt) (second (new_line tt) (second (new_line tt) (
      second (new_line tt) (second (new_line tt) (second (new_line tt) (second (new_line tt) (second (new_line tt) (second (new_line tt) (second (new_line tt) (
      second (new_line tt) (both (branch 0) end)))))))))))))));
  given = refl;
  given' = refl;
}

-- 20: line 1 has begun in one of the lists only, by BRANCH on line 0.
pub first-20 : Differ (room 8 8 8) 1
    (on 1 RECENT ∷ on 1 RECENT ∷ [])
    (on 1 RECENT ∷ on 0 (BRANCH 0) ∷ on 1 RECENT ∷ [])
    (says (refused 20) ∷ says (refused 20) ∷ [])
    (says (refused 20) ∷ says (line_is 1) ∷ says (recent_is 0) ∷ [])
unfolding computes run
first-20 = record { twins = both (query recent) (second (new_line tt) (both (query recent) end)); given = refl; given' = refl }

-- VIEW tells no number: of a line that has not begun it hands out the empty part.
pub first-view : Differ (room 8 8 8) 1
    (on 1 (VIEW 1 0) ∷ [])
    (before ++ on 0 (BRANCH 1) ∷ on 1 (VIEW 1 0) ∷ [])
    (says (part_is []) ∷ [])
    (says (ticket_is 1) ∷ says put_done ∷ says (version_is 1 1) ∷ says (node_is 1 0 1 0 0 0) ∷ says (published_is 1) ∷ says (line_is 1) ∷ says (part_is (page_of 10)) ∷ [])
unfolding computes run before among
first-view = record {
  twins = second new_ticket (second (other_put refl) (second (other_line refl tt) (second (other_weave refl) (second (other_line refl tt) (second (new_line tt) (both (query (view 1 0)) end))))));
  given = refl;
  given' = refl;
}
