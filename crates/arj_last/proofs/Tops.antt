-- Committed tops, looked up among some of them alone.
use Rattle.std.proofs.Common.{◌≡◌, ℕ, List, [], ◌∷◌, Bool, true, false, cond, ◌==◌, refl, sym, ◌∙◌, ap}
use Rattle.std.specs.Prelude.{filter, max}
use Rattle.std.specs.List.{filter_map}
use Rattle.arj_journal.specs.declared.body.Line.{Line}
use Rattle.arj_model.specs.Calls.{Top, committings, tops}
use Rattle.arj_model.specs.Serial.{root_of, serial_key, top_place, unit_place}
use Rattle.arj_changes.proofs.Tops.{tops_are}
use Rattle.arj_changes.specs.Kept.{AreKept, called_of, is_ended, is_found}
use Rattle.arj_changes.specs.Tops.{is_done, top_called, tops_called}
use Rattle.arj_changes.specs.declared.kept.Called.{Called}
use Rattle.arj_changes.specs.declared.kept.Changes.{Changes}
use Rattle.arj_last.specs.Kept.{number_of}

-- what is found among all of those that are done is found among those that pass the test by which it is looked up
module _ {R : Type 0} (f : List Top → R) (g : Top → R → R) (test done : Called → Bool)
    (step : (c : Called) (ts : List Top) → f (top_called c ∷ ts) ≡ cond (test c) (g (top_called c) (f ts)) (f ts)) where
  found_among : (cs : List Called) → f (tops_called (filter done (filter test cs))) ≡ f (tops_called (filter done cs))
  found_among [] = refl
  found_among (c ∷ cs) = by (test c) refl (done c) refl (found_among cs)
    where
      some : List Called
      some = filter test cs

      all : List Called
      all = filter done cs

      by : (a : Bool) → test c ≡ a → (d : Bool) → done c ≡ d → f (tops_called (filter done some)) ≡ f (tops_called all)
          → f (tops_called (filter done (cond a (c ∷ some) some))) ≡ f (tops_called (cond d (c ∷ all) all))
      by true e true is ih =
          (λ i. f (tops_called (cond (is i) (c ∷ filter done some) (filter done some)))) ∙ step c (tops_called (filter done some))
          ∙ (λ i. cond (test c) (g (top_called c) (ih i)) (ih i)) ∙ sym (step c (tops_called all))
      by true e false is ih = (λ i. f (tops_called (cond (is i) (c ∷ filter done some) (filter done some)))) ∙ ih
      by false e true is ih =
          ih ∙ sym ((λ i. cond (e i) (g (top_called c) (f (tops_called all))) (f (tops_called all)))) ∙ sym (step c (tops_called all))
      by false e false is ih = ih

-- the key of a top, by the commits that were called of it and of its root
pub key_among : (lines : List Line) (c : Changes) → AreKept lines c → (top root : ℕ) (own unit : List Called)
    → own ≡ filter (is_done (is_ended c) (is_found c)) (filter (λ d. number_of false d == top) (filter_map called_of (committings lines)))
    → root ≡ root_of (tops_called own) top
    → unit ≡ filter (is_done (is_ended c) (is_found c)) (filter (λ d. number_of true d == root) (filter_map called_of (committings lines)))
    → (unit_place (tops_called unit) root ∷ top_place (tops_called own) top ∷ []) ≡ serial_key (tops lines) top
key_among lines c has top root own unit owns is units =
    (λ i. (ap (λ cs. unit_place (tops_called cs) root) units
    ∙ found_among (λ ts. unit_place ts root) (λ t n. max t.at n) (λ d. number_of true d == root) done (λ d ts. refl) called
    ∙ ap (λ ts. unit_place ts root) are ∙ ap (unit_place (tops lines)) root_is) i
    ∷ (ap (λ cs. top_place (tops_called cs) top) owns
    ∙ found_among (λ ts. top_place ts top) (λ t n. t.at) (λ d. number_of false d == top) done (λ d ts. refl) called
    ∙ ap (λ ts. top_place ts top) are) i ∷ [])
  where
    done : Called → Bool
    done = is_done (is_ended c) (is_found c)

    called : List Called
    called = filter_map called_of (committings lines)

    are : tops_called (filter done called) ≡ tops lines
    are = ap (λ cs. tops_called (filter done cs)) (sym has.called) ∙ tops_are lines c has

    root_is : root ≡ root_of (tops lines) top
    root_is = is ∙ ap (λ cs. root_of (tops_called cs) top) owns
        ∙ found_among (λ ts. root_of ts top) (λ t n. t.root) (λ d. number_of false d == top) done (λ d ts. refl) called
        ∙ ap (λ ts. root_of ts top) are
