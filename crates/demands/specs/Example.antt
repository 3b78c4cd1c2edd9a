-- Document 01's example input as a list of calls, all on line 0: its answers, by computation, on the model and on the calls' definitions.
-- The theorem by-calls stands in proofs/Example.
use Rattle.std.specs.Prelude.{◌≡◌, refl, List, [], ◌∷◌, replicate}
use Rattle.register.specs.Register.{no_record}
use Rattle.model.specs.Calls.{Call, BEGIN, PUT, WEAVE, on, APPEND, PUBLISH, READ, STAMP, VIEW, SIZE, RECENT, refused, ticket_is, put_done, version_is, node_is, published_is, waiting, filled, size_is, recent_is, stamp_is, part_is, Outcome, says}
use Rattle.model.specs.Model.{Limits, no_model}
use Rattle.model.specs.OnModel.{on_model}
use Rattle.model.specs.Run.{outcomes}
use Rattle.model.specs.Example.{page_of}
use Rattle.versions.specs.Store.{Areas}
use Rattle.format.specs.Format.{format_number}
use Rattle.demands.specs.Computes.{computes}
use Rattle.demands.specs.Run.{fresh_of}

-- FORMAT,16,4,8,2 and areas of its lengths, with anything in them.
unfoldable pub limits : Limits
limits = record { size = 16; pages = 4; nodes = 8; updates = 2 }

unfoldable pub areas : Areas
areas = record { pages = replicate 64 7; nodes = replicate 16 7; register = replicate 2 no_record }

-- The document's steps, and after them SIZE, RECENT and VIEW; 34 is 22 in hexadecimal and 17 is 11.
unfoldable pub calls : List Call
calls =
    BEGIN 1
    ∷ BEGIN 1
    ∷ PUT 2 0 (page_of 34)
    ∷ PUT 1 0 (page_of 17)
    ∷ on 0 (APPEND 2)
    ∷ on 0 (APPEND 1)
    ∷ WEAVE 1
    ∷ on 0 (PUBLISH 0)
    ∷ WEAVE 2
    ∷ on 0 (PUBLISH 0)
    ∷ on 0 (READ 2 0 0 [])
    ∷ WEAVE 1
    ∷ on 0 (PUBLISH 0)
    ∷ on 0 (READ 2 14 4 (replicate 6 9))
    ∷ on 0 (STAMP 2 0)
    ∷ BEGIN 1
    ∷ on 0 (SIZE 2)
    ∷ on 0 RECENT
    ∷ on 0 (VIEW 2 1)
    ∷ []

-- READ's bytes stand at the front of the buffer, and its last two bytes stay.
unfoldable pub given : List Outcome
given =
    says (ticket_is 1)
    ∷ says (ticket_is 2)
    ∷ says put_done
    ∷ says put_done
    ∷ says (version_is 1 1)
    ∷ says (version_is 2 2)
    ∷ says (node_is 2 0 2 1 2 1)
    ∷ says waiting
    ∷ says (node_is 1 0 1 1 0 0)
    ∷ says (published_is 1)
    ∷ says (refused 16)
    ∷ says (node_is 2 1 1 0 0 0)
    ∷ says (published_is 2)
    ∷ record { answer = filled; buffer = 34 ∷ 34 ∷ 17 ∷ 17 ∷ 9 ∷ 9 ∷ [] }
    ∷ says (stamp_is 1)
    ∷ says (refused 5)
    ∷ says (size_is 32)
    ∷ says (recent_is 2)
    ∷ says (part_is (page_of 17))
    ∷ []

pub format-accepts : format_number (fresh_of limits) areas ≡ 0
unfolding computes limits areas
format-accepts = refl

pub by-model : outcomes (on_model limits) no_model calls ≡ given
unfolding computes limits calls given
by-model = refl
