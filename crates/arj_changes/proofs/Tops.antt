-- Committed tops, by what is kept of those whose commits were called.
use Rattle.std.proofs.Common.{◌≡◌, ℕ, List, [], ◌∷◌, Bool, true, false, cond, Option, Some, None, refl, ap, ◌∙◌}
use Rattle.std.specs.Prelude.{filter}
use Rattle.std.specs.List.{cons_option, filter_map, list_any}
use Rattle.arj_base.specs.Uid.{uid_eq}
use Rattle.arj_base.specs.declared.uid.Uid.{Uid}
use Rattle.arj_journal.specs.declared.body.Line.{Line}
use Rattle.arj_model.specs.Actions.{Act, Placed, committed, has_end, is_committed, recovered, root_in, top_in}
use Rattle.arj_model.specs.Calls.{committings, root_or, top_by, top_of, tops}
use Rattle.arj_changes.specs.Kept.{AreKept, called_by, called_of, is_ended, is_found}
use Rattle.arj_changes.specs.Tops.{is_done, tops_called}
use Rattle.arj_changes.specs.declared.kept.Called.{Called}
use Rattle.arj_changes.specs.declared.kept.Changes.{Changes}

done_tops : (E : List (Placed ℕ)) (F : List (Placed Uid)) (ms : List (Placed (List Act)))
    → tops_called (filter (is_done (has_end E) (λ u. list_any (λ p. uid_eq p.it u) F)) (filter_map called_of ms)) ≡ filter_map (top_of E F) ms
done_tops E F [] = refl
done_tops E F (m ∷ ms) = by (top_in m.it) (done_tops E F ms)
  where
    done : Called → Bool
    done = is_done (has_end E) (λ u. list_any (λ p. uid_eq p.it u) F)

    one : (t : Act) (b : Bool) → tops_called (filter done (filter_map called_of ms)) ≡ filter_map (top_of E F) ms
        → tops_called (cond b (record {
          id = t.id;
          uid = t.uid;
          root = root_or t.id (root_in m.it);
          at =
              m.at;
        } ∷ filter done (filter_map called_of ms)) (filter done (filter_map called_of ms)))
        ≡ cons_option (cond b (Some (record {
          id = t.id;
          root = root_or t.id (root_in m.it);
          at =
              m.at;
        })) None) (filter_map (top_of E F) ms)
    one t true ih = ap (λ ts. record { id = t.id; root = root_or t.id (root_in m.it); at = m.at } ∷ ts) ih
    one t false ih = ih

    by : (o : Option Act) → tops_called (filter done (filter_map called_of ms)) ≡ filter_map (top_of E F) ms
        → tops_called (filter done (cons_option (called_by m.at m.it o) (filter_map called_of ms))) ≡ cons_option (top_by E F m o) (filter_map (top_of E F) ms)
    by None ih = ih
    by (Some t) ih = one t (is_committed E F t) ih

-- the committed tops
pub tops_are : (lines : List Line) (c : Changes) → AreKept lines c →
    tops_called (filter (is_done (is_ended c) (is_found c)) c.called.items) ≡ tops lines
tops_are lines c has =
    (λ i. tops_called (filter (is_done (λ n. has.committed n i) (λ u. has.found u i)) (has.called i)))
    ∙ done_tops (committed lines) (recovered lines) (committings lines)
