-- What an event makes of the labels that were given: it gives one where an action begins, and else leaves them as they are.
use Rattle.arj_law_parts.proofs.Words
use Words.{◌≡◌, ℕ, zero, suc, Bool, true, false, not, cond, List, [], ◌∷◌, length, Option, Some, None, refl, sym, ap, subst, nat_lt, ◌||◌}
use Words.{insert_entry, Event, Label, label_cmp, Input, at_place, Arm, Frame, Giving, Labelled, World, as_delivered, begins}
use Words.{change_frame, deliver, deliver_frame, frame_number, giving, happens, is_quiet, is_up_at, junk_fits, kind_below, is_serial}
use Words.{labels_unless, limited, lose, lose_frame, lowest, most_frames, node_numbers, node_of, quiesce, quiet_line, refused_at, settle}
use Words.{settle_for, show_all, show_up, steps, tick_all, tick_up}
use Words.body
use Words.event
use Words.kind
use Words.input
use Rattle.arj_law_runs.proofs.Terms.{says}
use Rattle.arj_law_runs.proofs.Terms.which
use Rattle.arj_law_runs.proofs.bindings.Worlds.{steps_labels}

module _ (Q : List (Label × Labelled) → Type 0) where
  abbrev Fits : World → Type 0
  Fits w = Q w.labels

  steps_fit : (k : ℕ) (i : Input) (w : World) → Fits w → Fits (steps k i w)
  steps_fit k i w fits = subst Q (sym (steps_labels k i w)) fits

  ticks_fit : (ns : List ℕ) (w : World) → Fits w → Fits (tick_all ns w)
  ticks_fit [] w fits = fits
  ticks_fit (n ∷ ns) w fits = ticks_fit ns (tick_up n w) (by (w.full || not (is_up_at n w)))
    where
      by : (b : Bool) → Fits (cond b w (steps n input.Tick w))
      by true = fits
      by false = steps_fit n input.Tick w fits

  deliver_fits : (k : ℕ) (w : World) → Fits w → Fits (deliver k w)
  deliver_fits k w fits = by (at_place k w.frames)
    where
      by : (o : Option Frame) → Fits (deliver_frame k w o)
      by None = fits
      by (Some f) = steps_fit f.to (input.Frame k f.from f.message) (change_frame k as_delivered f w) fits

  settle_fits : (fuel : ℕ) (w : World) → Fits w → Fits (settle_for fuel w)
  settle_fits zero w fits = fits
  settle_fits (suc fuel) w fits = by (lowest w) (λ k. settle_fits fuel (deliver k w) (deliver_fits k w fits))
    where
      by : (o : Option ℕ) → ((k : ℕ) → Fits (settle_for fuel (deliver k w))) →
          Fits (elim o [ None ↦ w | Some k ↦ settle_for fuel (deliver k w) ])
      by None rest = fits
      by (Some k) rest = rest k

  quiesce_fits : (w : World) → Fits w → Fits (quiesce w)
  quiesce_fits w fits =
      quiet (settle (tick_all (node_numbers w) (settle w))) (settle_fits most_frames (tick_all (node_numbers w) (settle w))
      (ticks_fit (node_numbers w) (settle w) (settle_fits most_frames w fits)))
    where
      quiet : (v : World) → Fits v → Fits (quiet_line v)
      quiet v fits = by v.full
        where
          by : (b : Bool) → Fits (cond b v (says (body.Quiet (is_quiet v) ∷ []) v))
          by true = fits
          by false = fits

  shows_fit : (x : ℕ) (ns : List ℕ) (w : World) → Fits w → Fits (show_all x ns w)
  shows_fit x [] w fits = fits
  shows_fit x (n ∷ ns) w fits = shows_fit x ns (show_up x n w) (by (is_up_at n w))
    where
      by : (b : Bool) → Fits (cond b (steps n (input.Show x) w) w)
      by true = steps_fit n (input.Show x) w fits
      by false = fits

  junk_fits_so : (n : ℕ) (w : World) → Fits w → Fits (junk_fits n w (nat_lt (length w.frames) most_frames))
  junk_fits_so n w fits = by (nat_lt (length w.frames) most_frames)
    where
      by : (b : Bool) → Fits (junk_fits n w b)
      by true = fits
      by false = fits

  lose_fits : (k : ℕ) (w : World) → Fits w → Fits (lose k w)
  lose_fits k w fits = by (at_place k w.frames)
    where
      by : (o : Option Frame) → Fits (lose_frame k w o)
      by None = fits
      by (Some f) = fits

  -- with the label that is given
  abbrev Given : Giving → World → Type 0
  Given g w = Q (insert_entry label_cmp w.labels g.label (record { node = g.node; serial = is_serial g.kind }))

  begins_fit : (g : Giving) (w : World) → Given g w → Fits w → Fits (begins g w)
  begins_fit g w new fits = steps_fit g.node i (labels_unless g w (refused_at i w (at_place g.node w.nodes)))
      (by (refused_at i w (at_place g.node w.nodes)))
    where
      i : Input
      i = input.Begin g.label g.kind g.parent

      by : (r : Option ℕ) → Fits (labels_unless g w r)
      by None = new
      by (Some c) = fits

  pub happens_labels : (e : Event) (a : Arm) (w : World) → ((g : Giving) → giving e w ≡ Some g → Given g w) → Fits w →
      Fits (happens e a w)
  happens_labels (event.Begin l n) a w new fits =
      begins_fit (record { label = l; kind = kind.Top; parent = None; node = n }) w (new _ refl) fits
  happens_labels (event.Serial l n) a w new fits =
      begins_fit (record { label = l; kind = kind.Serial; parent = None; node = n }) w (new _ refl) fits
  happens_labels (event.BeginIn l p) a w new fits =
      begins_fit (record { label = l; kind = kind_below p w; parent = Some p; node = node_of p w }) w (new _ refl) fits
  happens_labels (event.Top l p) a w new fits =
      begins_fit (record { label = l; kind = kind.Independent; parent = Some p; node = node_of p w }) w (new _ refl) fits
  happens_labels (event.Call l x o) a w new fits = steps_fit (node_of l w) (input.Call l x o) w fits
  happens_labels (event.Include l x n) a w new fits = steps_fit (node_of l w) (input.Include l x n) w fits
  happens_labels (event.Commit l) a w new fits = steps_fit (node_of l w) (input.Commit l) w fits
  happens_labels (event.Abort l) a w new fits = steps_fit (node_of l w) (input.Abort l) w fits
  happens_labels (event.GiveUp l) a w new fits = steps_fit (node_of l w) (input.GiveUp l) w fits
  happens_labels (event.Deliver k) a w new fits = deliver_fits (frame_number k w) w fits
  happens_labels (event.Lose k) a w new fits = lose_fits (frame_number k w) w fits
  happens_labels (event.Tick n) a w new fits = steps_fit n input.Tick w fits
  happens_labels event.Settle a w new fits = settle_fits most_frames w fits
  happens_labels event.Quiesce a w new fits = quiesce_fits w fits
  happens_labels (event.Crash n) a w new fits = steps_fit n input.Crash w fits
  happens_labels (event.Restart n) a w new fits = steps_fit n input.Restart w fits
  happens_labels (event.Stop n c how) a w new fits = fits
  happens_labels (event.Junk n bytes) a w new fits = junk_fits_so n w fits
  happens_labels (event.Show x) a w new fits = shows_fit x (node_numbers w) w fits

  pub limited_labels : (w : World) → Fits w → Fits (limited w)
  limited_labels w fits = by w.full
    where
      by : (b : Bool) → Fits (cond b (says (body.Limit which.Frames ∷ []) (record w { over = true })) w)
      by true = fits
      by false = fits
