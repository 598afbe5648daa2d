-- A walk along a node's effects, at whose ends a relation is shown where another one is known.
use Rattle.arj_law_parts.proofs.Words
use Words.{◌≡◌, ◌⊎◌, ℕ, List, true, Option, Some, None, inl, inr, AllByRecursion, Body, Disk, Effect, Parts, Post, Seen}
use Words.body
use Rattle.arj_law_promise.proofs.Terms.{is_quiet_line, up, Up, Walks, halted, walks_both, walks_to}
use Rattle.arj_law_promise.proofs.settling.Trails.{Down, FitsSo, UpBy, Went, halt_went, went}

-- with this on the disk the node is down, or up with these parts
abbrev pub Either : (Disk → Type 0) → Parts → Disk → Option Parts → Type 0
Either D v c live = D c × ((live ≡ None) ⊎ (live ≡ Some v))

module _ (K P : Seen → Type 0) (k : ℕ) (M : Seen) (Says : Body → Type 0) (Sends : Post → Type 0) (quiet : (b : Body) →
    is_quiet_line b ≡ true → Says b) (halts : Says (body.Halted k)) (D : Disk → Type 0) (v : Parts) where
  -- both together
  abbrev pub Both : Seen → Type 0
  Both N = K N × P N

  pub up_either : (Z : Seen) → Went k M Says Sends (UpBy k M Says Sends quiet halts D v) Z → Went k M Says Sends (Either D v) Z
  up_either Z w = record {
    more = w.more;
    lines = w.lines;
    said_so = w.said_so;
    back = w.back;
    on = w.on;
    others = w.others;
    disk = w.disk;
    live = w.live;
    here = w.here;
    fits = (w.fits.0, inr w.fits.1);
  }

  pub down_either : (Z : Seen) → Went k M Says Sends (Down k M Says Sends quiet halts D) Z → Went k M Says Sends (Either D v) Z
  down_either Z w = record {
    more = w.more;
    lines = w.lines;
    said_so = w.said_so;
    back = w.back;
    on = w.on;
    others = w.others;
    disk = w.disk;
    live = w.live;
    here = w.here;
    fits = (w.fits.0, inl w.fits.1);
  }

  pub step_walk : (e : ℕ) (outs : List Effect) (c : Disk) → AllByRecursion (FitsSo k M Says Sends quiet halts D) outs → D c → ((Z : Seen) →
      K Z → Went k M Says Sends (Either D v) Z → P Z) → Walks K e k outs (Up K k v) c M → Walks Both e k outs (Up Both k v) c M
  step_walk e outs c all fits each known =
      walks_to (λ N. K N × Went k M Says Sends (Down k M Says Sends quiet halts D) N) Both e k outs
      (λ b N. Up K k v b N × Went k M Says Sends (UpBy k M Says Sends quiet halts D v) (up k b v N)) (Up Both k v) c M
      (λ N h. (h.0, each N h.0 (down_either N h.1)))
      (λ b N h. (h.0, each (up k b v N) h.0 (up_either (up k b v N) h.1)))
      (walks_both K (Went k M Says Sends (Down k M Says Sends quiet halts D)) e k outs (Up K k v) (λ b N. Went k M Says Sends
      (UpBy k M Says Sends quiet halts D v) (up k b v N)) c M known (went k M Says Sends quiet halts D e v outs c all fits))

  -- a stop at once
  pub step_halt : (e : ℕ) (c : Disk) → D c → ((Z : Seen) → K Z → Went k M Says Sends (Either D v) Z → P Z) → K (halted e k c M) →
      Both (halted e k c M)
  step_halt e c fits each known =
      (known, each (halted e k c M) known (down_either (halted e k c M) (halt_went k M Says Sends quiet halts D e c fits)))
