-- Blast windows, by computation on the model: PUBLISH at the edges of a window in the week and of one over its end, a due version held and then published, lists that
-- are refused, the empty list, the minute's row, and a window behind one with equal ends.
-- The theorems that compute them stand in proofs/Windows.
use Rattle.std.specs.Prelude.{List, [], ◌∷◌, ◌++◌, ℕ, replicate}
use Rattle.text.specs.Quoted.{text, together}
use Rattle.model.specs.Calls.{Call, BEGIN, PUT, WEAVE, SETWINDOWS, on, APPEND, PUBLISH, RECENT, refused, ticket_is, put_done, version_is, node_is, published_is, waiting, held, windows_done, recent_is, Outcome, says}
use Rattle.model.specs.Due.{publishes}
use Rattle.model.specs.Example.{page_of}

-- A window in the week, and one over its end.
abbrev pub two_windows : List ℕ
two_windows = text "600,660\n10000,20\n"

-- `from` is inside and `to` outside. The minute given decides, also when the clock is set back.
unfoldable pub edges : List Call
edges = SETWINDOWS two_windows ∷ publishes 0 (599 ∷ 600 ∷ 659 ∷ 660 ∷ 9999 ∷ 10000 ∷ 10079 ∷ 0 ∷ 19 ∷ 20 ∷ 659 ∷ [])

unfoldable pub given_edges : List Outcome
given_edges =
    says windows_done
    ∷ says waiting
    ∷ says held
    ∷ says held
    ∷ says waiting
    ∷ says waiting
    ∷ says held
    ∷ says held
    ∷ says held
    ∷ says held
    ∷ says waiting
    ∷ says held
    ∷ []

-- A complete version is held inside a window, and published outside it.
unfoldable pub due : List Call
due =
    SETWINDOWS two_windows
    ∷ BEGIN 1
    ∷ PUT 1 0 (page_of 10)
    ∷ on 0 (APPEND 1)
    ∷ WEAVE 1
    ∷ on 0 (PUBLISH 10079)
    ∷ on 0 RECENT
    ∷ on 0 (PUBLISH 20)
    ∷ on 0 RECENT
    ∷ on 0 (PUBLISH 600)
    ∷ on 0 (PUBLISH 660)
    ∷ []

unfoldable pub given_due : List Outcome
given_due =
    says windows_done
    ∷ says (ticket_is 1)
    ∷ says put_done
    ∷ says (version_is 1 1)
    ∷ says (node_is 1 0 1 0 0 0)
    ∷ says held
    ∷ says (recent_is 0)
    ∷ says (published_is 1)
    ∷ says (recent_is 1)
    ∷ says held
    ∷ says waiting
    ∷ []

-- So many lines of one window.
abbrev pub lines : ℕ → List ℕ
lines n = together (replicate n (text "1,2\n"))

-- A list that is refused leaves the one before it: equal ends, a minute past the week, a line with no line feed, a third field, a sign, a leading zero, an empty line, 33
-- lines, and of these one malformed. A list that is accepted, also the empty one and one of 32 lines, replaces it whole.
unfoldable pub lists : List Call
lists =
    SETWINDOWS two_windows
    ∷ SETWINDOWS (text "5,5\n")
    ∷ SETWINDOWS (text "1,2\n600,10080\n")
    ∷ SETWINDOWS (text "1,2\n600,660")
    ∷ SETWINDOWS (text "1,2,3\n")
    ∷ SETWINDOWS (text "1,-2\n")
    ∷ SETWINDOWS (text "1,02\n")
    ∷ SETWINDOWS (text "\n")
    ∷ SETWINDOWS (lines 33)
    ∷ SETWINDOWS (lines 33 ++ text "7,7\n")
    ∷ on 0 (PUBLISH 600)
    ∷ on 0 (PUBLISH 10000)
    ∷ on 0 (PUBLISH 20)
    ∷ SETWINDOWS (lines 32)
    ∷ on 0 (PUBLISH 600)
    ∷ on 0 (PUBLISH 1)
    ∷ SETWINDOWS []
    ∷ on 0 (PUBLISH 1)
    ∷ []

unfoldable pub given_lists : List Outcome
given_lists =
    says windows_done
    ∷ says (refused 23)
    ∷ says (refused 23)
    ∷ says (refused 23)
    ∷ says (refused 23)
    ∷ says (refused 23)
    ∷ says (refused 23)
    ∷ says (refused 23)
    ∷ says (refused 24)
    ∷ says (refused 23)
    ∷ says held
    ∷ says held
    ∷ says waiting
    ∷ says windows_done
    ∷ says waiting
    ∷ says held
    ∷ says windows_done
    ∷ says waiting
    ∷ []

-- Minute 10,079 is the last; one past it is refused, also where a window runs over the week's end, and the line's row comes before.
unfoldable pub minutes : List Call
minutes =
    on 0 (PUBLISH 10079)
    ∷ on 0 (PUBLISH 10080)
    ∷ on 1 (PUBLISH 10079)
    ∷ on 1 (PUBLISH 10080)
    ∷ SETWINDOWS two_windows
    ∷ on 0 (PUBLISH 10079)
    ∷ on 0 (PUBLISH 10080)
    ∷ on 1 (PUBLISH 10079)
    ∷ []

unfoldable pub given_minutes : List Outcome
given_minutes =
    says waiting
    ∷ says (refused 22)
    ∷ says (refused 20)
    ∷ says (refused 20)
    ∷ says windows_done
    ∷ says held
    ∷ says (refused 22)
    ∷ says (refused 20)
    ∷ []
