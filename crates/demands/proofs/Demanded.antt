-- The three demands, over any list of calls from an accepted FORMAT: the store is at all times the image of the model. And the isolation of lines.
-- Assumes nothing.
use mathlib.Core.Path.{◌≡◌, refl, sym, ap, ◌∙◌}
use mathlib.Core.List.{List, [], ◌∷◌, ◌++◌}
use Prim.Native.Nat.{ℕ, suc, pred, ◌≤◌, ◌<◌}
use native.Mathlib.Omega.{arith}
use lib.ListN.{length}
use Rattle.versions.specs.Store.{Areas}
use Rattle.model.specs.Calls.{Call, on, PUBLISH, BRANCH, ask, Query, read, size, stamp, view, READ, SIZE, RECENT, STAMP, VIEW, held, line_is, recent_is, stamp_is, says}
use Rattle.table.proofs.Table.{unless-0}
use Rattle.model.specs.Model.{Limits, Line, Model, no_model, line_at, history}
use Rattle.model.specs.OnModel.{on_model, branched, branch_number, on_line}
use Rattle.model.specs.Run.{run, outcomes, model_after}
use Rattle.model.specs.Due.{publishes}
use Rattle.model.proofs.Model.Sound.{Sound}
use Rattle.model.proofs.History.SoundHistory.{line-history}
use Rattle.model.proofs.Model.Shown.{versions-length}
use Rattle.model.proofs.Lists.Runs.{run-append, run-image, outcomes-image}
use Rattle.model.proofs.Calls.Kept.Every.{step-sound, empty-sound, sound-after}
use Rattle.model.proofs.Line.Asked.{recent-accepted, read-accepted, view-accepted, stamp-accepted, size-accepted, Reads, query-alike}
use Rattle.model.proofs.History.Blob.{bytes-length}
use Rattle.model.proofs.Line.Since.{stamp-published, stamp-below, view-since, view-before, view-stamped}
use Rattle.model.proofs.Area.Found.{tree-image}
use Rattle.model.proofs.Calls.Later.{run-grown, later-line, later-published, later-query}
use Rattle.model.proofs.Area.Woven.{published-upto}
use Rattle.model.proofs.History.Stay.{SameUpTo, same-less}
use Rattle.model.proofs.Line.Shared.{branch-reads}
use Rattle.model.proofs.Model.Passed.{BranchPassed, branch-passed, line-answered}
use Rattle.model.proofs.Calls.Kept.Branch.{branched-length, branched-new}
use Rattle.model.proofs.Calls.Reached.{reached-windows, reached-exact, reached-comes}
use Rattle.model.proofs.Calls.Held.{waits, waits_back, publish-held, held-inside, held-still}
use Rattle.isolation.proofs.Isolation.{isolated as isolated-model}
use Rattle.demands.specs.Run.{State, on_store, formatted_state, store_after, asked}
use Rattle.demands.specs.Demands.{Accepted, Published, AnswersAsModel, ReadsInTurn, Compared, Kept, Reaches, Held, Fetches, BeginsFrom, ThirdDemand, Demanded, Isolated}
use Rattle.demands.proofs.Image.{image}
use Rattle.demands.proofs.Allowed.{format-allowed}
use Rattle.demands.proofs.Faultless.{run-fine}
use Rattle.demands.proofs.Snapshots.{snapshot-stays}
use Rattle.demands.proofs.Steps.Format.{format-image}
use Rattle.demands.proofs.Steps.Every.{step-image}

module _ (L : Limits) (a : Areas) (accepted : Accepted L a) where
  sound : (cs : List Call) → Sound L (model_after L cs)
  sound cs = sound-after L (format-allowed L a accepted) cs

  -- After any list of calls the store and its areas are the image of the model.
  pub store-image : (cs : List Call) → store_after L a cs ≡ image L (model_after L cs)
  store-image cs =
      ap (λ (x : State). run on_store x cs) (format-image L a accepted)
      ∙ run-image on_store (on_model L) (image L) (Sound L) (step-sound L) (step-image L) no_model cs (empty-sound L (format-allowed L a accepted))

  -- So what a call gives back there is what the model says.
  pub as-model : (cs : List Call) (c : Call) → asked (store_after L a cs) c ≡ (on_model L (model_after L cs) c).1
  as-model cs c = ap (λ (x : State). (on_store x c).1) (store-image cs) ∙ ap (λ r. r.1) (step-image L (model_after L cs) c (sound cs))

  pub answers-as-model : (cs : List Call) → AnswersAsModel L a cs
  answers-as-model cs = record { same = same; sound = λ i p. rw same (run-fine L no_model cs i p) }
    where
      same : outcomes on_store (formatted_state L a) cs ≡ outcomes (on_model L) no_model cs
      same = ap (λ (x : State). outcomes on_store x cs) (format-image L a accepted)
          ∙ outcomes-image on_store (on_model L) (image L) (Sound L) (step-sound L) (step-image L) no_model cs (empty-sound L (format-allowed L a accepted))

  -- ---- every line that has begun

  module _ (cs : List Call) (l : ℕ) (there : l < length (model_after L cs).lines) where
    pub reads-in-turn : (k : ℕ) → k ≤ (line_at (model_after L cs) l).published → ReadsInTurn L a cs l k
    reads-in-turn k p =
        let m = model_after L cs in
        record {
          reads = λ offset len buffer q r. as-model cs (on l (READ k offset len buffer)) ∙ read-accepted L m l there k p offset len buffer q r;
          views = λ i q. as-model cs (on l (VIEW k i)) ∙ view-accepted L m l there k p i q;
          stamps = λ i q. as-model cs (on l (STAMP k i)) ∙ stamp-accepted L m l there k p i q;
          lowest = stamp-published L m (sound cs) l there k p;
          sizes = as-model cs (on l (SIZE k)) ∙ size-accepted L m l there k p;
          whole =
              bytes-length L (history m l) (line-history L m (sound cs) l there) k
              (omega (arith, published-upto L m (sound cs) l there k p, versions-length m l));
          tree = rw (store-image cs) (tree-image L m (sound cs) l there k p);
        }

    recent-as-model : asked (store_after L a cs) (on l RECENT) ≡ says (recent_is (line_at (model_after L cs) l).published)
    recent-as-model = as-model cs (on l RECENT) ∙ recent-accepted L (model_after L cs) l there

    pub compared : Compared L a cs l
    compared = record { recent = recent-as-model; versions = reads-in-turn }

  -- The model after more calls, from the model after the first.
  later : (cs more : List Call) → model_after L (cs ++ more) ≡ run (on_model L) (model_after L cs) more
  later cs more = run-append (on_model L) no_model cs more

  -- A published version stays, whatever is done on its line or on another.
  pub kept : (cs more : List Call) (l k : ℕ) → Published L cs l k → Kept L a cs more l k
  kept cs more l k p =
      let m = model_after L cs in
      let s = sound cs in
      let e = later cs more in
      let stays : (q : Query) → Reads k q → asked (store_after L a (cs ++ more)) (on l (ask q)) ≡ asked (store_after L a cs) (on l (ask q)) =
      λ q r.
      let c = on l (ask q) in
      as-model (cs ++ more) c ∙ ap (λ (w : Model). (on_model L w c).1) e ∙ later-query L m s more l p.line k p.upto q r ∙ sym (as-model cs c) in
      record {
        published = record {
          line = rw e (later-line L m s more l p.line);
          upto = rw e (omega (arith, later-published L m s more l p.line, p.upto));
        };
        snapshot = rw e (snapshot-stays L m (run (on_model L) m more) s (run-grown L m s more) l p.line k (published-upto L m s l p.line k p.upto));
        reads = λ offset len buffer. stays (read k offset len buffer) refl;
        views = λ i. stays (view k i) refl;
        stamps = λ i. stays (stamp k i) refl;
        sizes = stays (size k) refl;
      }

  -- PUBLISH of a line repeated, at any minutes.
  pub reaches : (cs : List Call) (l : ℕ) → l < length (model_after L cs).lines → Reaches L a cs l
  reaches cs l there =
      let m = model_after L cs in
      let s = sound cs in
      let line : (minutes : List ℕ) → l < length (model_after L (cs ++ publishes l minutes)).lines =
      λ minutes. rw (later cs (publishes l minutes)) (later-line L m s (publishes l minutes) l there) in
      record {
        exact = λ minutes now e.
            let ps = publishes l minutes in
            let z = waits_back L (model_after L (cs ++ ps)) l now (sym (as-model (cs ++ ps) (on l (PUBLISH now))) ∙ e) in
            recent-as-model (cs ++ ps) l (line minutes)
            ∙ ap (λ (v : ℕ). says (recent_is v)) (ap (λ (x : Model). (line_at x l).published) (later cs ps) ∙ reached-exact L l m s there minutes (rw (later cs ps) at z));
        comes = λ minutes now all outside enough.
            let ps = publishes l minutes in
            let same : (model_after L (cs ++ ps)).windows ≡ m.windows = ap (λ (x : Model). x.windows) (later cs ps) ∙ reached-windows L l m s there minutes in
            as-model (cs ++ ps) (on l (PUBLISH now))
            ∙ waits L (model_after L (cs ++ ps)) l now (line minutes) (rw same outside) (rw (later cs ps) (reached-comes L l m s there minutes all enough));
      }

  -- PUBLISH inside a window.
  pub held-there : (cs : List Call) (l minute : ℕ) → Held L a cs l minute
  unfolding run
  held-there cs l minute =
      let m = model_after L cs in
      let c = on l (PUBLISH minute) in
      let said : asked (store_after L a cs) c ≡ says held → (on_model L m c).1 ≡ says held = λ e. sym (as-model cs c) ∙ e in
      record {
        holds = λ there accepted e. as-model cs c ∙ publish-held L m l minute there accepted e;
        only = λ e. held-inside L m l minute (said e);
        still = λ e. store-image (cs ++ c ∷ []) ∙ ap (image L) (later cs (c ∷ []) ∙ held-still L m l minute (said e)) ∙ sym (store-image cs);
      }

  -- What a stamp tells.
  pub fetched : (cs : List Call) (l v p w : ℕ) → asked (store_after L a cs) (on l (STAMP v p)) ≡ says (stamp_is w) → Fetches L a cs l v p w
  fetched cs l v p w e =
      let m = model_after L cs in
      let s = sound cs in
      let said : (u : ℕ) → asked (store_after L a cs) (on l (STAMP u p)) ≡ says (stamp_is w) → (on_model L m (on l (STAMP u p))).1 ≡ says (stamp_is w) =
      λ u z. sym (as-model cs (on l (STAMP u p))) ∙ z in
      let again : (u : ℕ) → (on_model L m (on l (VIEW u p))).1 ≡ (on_model L m (on l (VIEW v p))).1 → asked (store_after L a cs) (on l (VIEW u p)) ≡ asked (store_after L a cs) (on l (VIEW v p)) =
      λ u z. as-model cs (on l (VIEW u p)) ∙ z ∙ sym (as-model cs (on l (VIEW v p))) in
      let upto = stamp-below L m s l v p w (said v e) in
      record {
        upto = upto;
        same = λ u q r. again u (view-since L m s l v p w (said v e) u q r);
        alike = λ u z. again u (view-stamped L m s l u v p w (said u z) (said v e));
        differed = λ u q.
            let above : w ≡ suc (pred w) = omega arith in
            record {
              at = pred w;
              from = omega arith;
              below = omega arith;
              other = λ z. view-before L m s l v p w (said v e) (pred w) above (sym (as-model cs (on l (VIEW (pred w) p))) ∙ z ∙ as-model cs (on l (VIEW v p)));
            };
      }

  -- BRANCH's line has the version that it begins from published at once, and reads up to it as its source does.
  module _ (cs : List Call) (l v k : ℕ) (e : asked (store_after L a cs) (on l (BRANCH v)) ≡ says (line_is k)) where
    abbrev before : Model
    before = model_after L cs

    abbrev call : List Call
    call = on l (BRANCH v) ∷ []

    answered : (branch_number L before l v ≡ 0) × (length before.lines ≡ k)
    unfolding on_model on_line
    answered = line-answered (branch_number L before l v) (length before.lines) k (sym (as-model cs (on l (BRANCH v))) ∙ e)

    passed : BranchPassed before l v
    passed = branch-passed L before l v answered.0

    begun : model_after L (cs ++ call) ≡ branched L before l v
    unfolding run on_model on_line
    begun = later cs call ∙ unless-0 (branch_number L before l v) before (branched L before l v) answered.0

    here : k < length (branched L before l v).lines
    here = omega (arith, branched-length L before l v, answered.1)

    starts : (line_at (branched L before l v) k).published ≡ v
    starts = ap (λ (j : ℕ). (line_at (branched L before l v) j).published) (sym answered.1) ∙ ap (λ (x : Line). x.published) (branched-new L before l v)

    same : (w : ℕ) → w ≤ v → SameUpTo (history (branched L before l v) k) (history before l) w
    same w h =
        same-less (history (branched L before l v) k) (history before l) v w h
        (rw (← answered.1) (branch-reads L before l v))

    -- What the new line's queries give back.
    reads-alike : (u : ℕ) → u ≤ v → (q : Query) → Reads u q → asked (store_after L a (cs ++ call)) (on k (ask q)) ≡ asked (store_after L a cs) (on l (ask q))
    reads-alike u h q r =
        as-model (cs ++ call) (on k (ask q))
        ∙ ap (λ (x : Model). (on_model L x (on k (ask q))).1) begun
        ∙ query-alike L before (branched L before l v) l k u passed.line here (omega (arith, passed.published)) (omega (arith, starts)) (same u h) q r
        ∙ sym (as-model cs (on l (ask q)))

    pub begins-from : BeginsFrom L a cs l v k
    begins-from =
        let w = branched L before l v in
        record {
          recent = as-model (cs ++ call) (on k RECENT) ∙ ap (λ (x : Model). (on_model L x (on k RECENT)).1) begun ∙ recent-accepted L w k here ∙ ap (λ (j : ℕ). says (recent_is j)) starts;
          reads = λ u offset len buffer h. reads-alike u h (read u offset len buffer) refl;
          views = λ u p h. reads-alike u h (view u p) refl;
          stamps = λ u p h. reads-alike u h (stamp u p) refl;
          sizes = λ u h. reads-alike u h (size u) refl;
        }

  pub third-demand : (cs : List Call) → ThirdDemand L a cs
  third-demand cs = record { answers = answers-as-model cs; compared = compared cs; kept = kept cs; reaches = reaches cs; held = held-there cs; fetches = fetched cs; begins = begins-from cs }

-- The three demands hold, for any limits and areas that FORMAT accepts and any list of calls.
pub demanded : Demanded
demanded L a accepted cs = third-demand L a accepted cs

-- The lines of a store are isolated, since it gives back what the model does.
pub isolated : Isolated
isolated L a accepted = isolated-model L (λ cs c. asked (store_after L a cs) c) (as-model L a accepted)
