-- Every call on the image of a model leaves the image of the model after it, and gives back what the model says.
-- Assumes nothing.
use mathlib.Core.Path.{◌≡◌, ap}
use Prim.Native.Nat.{ℕ}
use Rattle.model.specs.Calls.{Call, BEGIN, PUT, WEAVE, SETWINDOWS, on, Act, WRITE, APPEND, PUBLISH, BRANCH, ask, Query, read, size, recent, stamp, view}
use Rattle.model.specs.Model.{Limits, Model}
use Rattle.model.specs.OnModel.{model_outcome, on_line, on_model}
use Rattle.model.proofs.Model.Sound.{Sound}
use Rattle.demands.specs.Run.{store_outcome, on_line_of, on_store}
use Rattle.demands.proofs.Image.{image}
use Rattle.demands.proofs.Steps.Size.{size-outcome}
use Rattle.demands.proofs.Steps.Recent.{recent-outcome}
use Rattle.demands.proofs.Steps.SetWindows.{windows-step}
use Rattle.demands.proofs.Steps.Publish.{publish-step}
use Rattle.demands.proofs.Steps.Branch.{branch-step}
use Rattle.demands.proofs.Steps.Begin.{begin-step}
use Rattle.demands.proofs.Steps.Put.{put_step}
use Rattle.demands.proofs.Steps.Assign.{write_step, append-step}
use Rattle.demands.proofs.Steps.Weave.{weave-step}
use Rattle.demands.proofs.Steps.Read.{read-outcome}
use Rattle.demands.proofs.Steps.Stamp.{stamp-outcome}
use Rattle.demands.proofs.Steps.View.{view-outcome}

-- What a call leaves and gives back on the image is the model's.
abbrev pub AsModel : Limits → Model → Call → Type 0
AsModel L m c = on_store (image L m) c ≡ (image L (on_model L m c).0, (on_model L m c).1)

-- A query gives back what the model says, and leaves both as they were.
query-outcome : (L : Limits) (m : Model) (l : ℕ) (q : Query) → Sound L m → store_outcome (image L m) l q ≡ model_outcome L m l q
query-outcome L m l (read v offset len buffer) s = read-outcome L m s l v offset len buffer
query-outcome L m l (size v) s = size-outcome L m s l v
query-outcome L m l recent s = recent-outcome L m s l
query-outcome L m l (stamp v p) s = stamp-outcome L m s l v p
query-outcome L m l (view v p) s = view-outcome L m s l v p

query-image : (L : Limits) (m : Model) (l : ℕ) (q : Query) → Sound L m → AsModel L m (on l (ask q))
unfolding on_store on_line_of on_model on_line
query-image L m l q s = ap (λ o. (image L m, o)) (query-outcome L m l q s)

line-image : (L : Limits) (m : Model) (l : ℕ) (a : Act) → Sound L m → AsModel L m (on l a)
line-image L m l (WRITE t f) s = write_step L m s l t f
line-image L m l (APPEND t) s = append-step L m s l t
line-image L m l (PUBLISH minute) s = publish-step L m s l minute
line-image L m l (BRANCH v) s = branch-step L m s l v
line-image L m l (ask q) s = query-image L m l q s

pub step-image : (L : Limits) (m : Model) (c : Call) → Sound L m → AsModel L m c
step-image L m (BEGIN n) s = begin-step L m s n
step-image L m (PUT t i bytes) s = put_step L m s t i bytes
step-image L m (WEAVE t) s = weave-step L m s t
step-image L m (SETWINDOWS t) s = windows-step L m s t
step-image L m (on l a) s = line-image L m l a s
