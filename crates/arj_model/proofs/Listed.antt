-- Without exclusions and includes the listed stores are the header's.
use Rattle.std.proofs.Common.{◌≡◌, ℕ, List, [], ◌∷◌, ◌++◌, map, filter, filter_map, refl, ◌∙◌, ap, not, ◌&&◌, ◌==◌}
use Rattle.std.proofs.lemmas.List.{append-nil}
use Rattle.arj_journal.specs.declared.body.Line.{Line}
use Rattle.arj_journal.specs.declared.header.Header.{Header}
use Rattle.arj_model.specs.Actions.{Placed, top_in, committed}
use Rattle.arj_model.specs.Calls.{Top}
use Rattle.arj_model.specs.Last.{Exclusion, Inclusion, excluded, included, joins_by, is_among, increasing, listed, listed_after}
use Rattle.arj_model.specs.Last.{listed_from, stores_of_line, object_line, serial_tops}

-- nothing is taken out where nothing leaves
all_stay : (stores : List ℕ) → filter (λ s. not (is_among [] s)) stores ≡ stores
all_stay [] = refl
all_stay (s ∷ stores) = ap (λ (ns : List ℕ). s ∷ ns) (all_stay stores)

stays_after : (lines : List Line) (x : ℕ) (stores : List ℕ) (t : Top) → excluded lines ≡ [] → included lines ≡ [] →
    listed_after lines x stores t ≡ stores
stays_after lines x stores t none_left none_came =
    let leaves : List (Placed Exclusion) → List ℕ = λ es. map (λ e. e.it.node) (filter (λ e. (e.it.top == t.id) && (e.it.x == x)) es) in
    let joins : List (Placed Inclusion) → List ℕ = λ is. filter_map (λ i. joins_by (committed lines) t.id x i (top_in i.it.path)) is in
    (λ j. filter (λ s. not (is_among (leaves (none_left j)) s)) stores ++ increasing (filter (λ s. not (is_among (leaves (none_left j)) s)) (joins (none_came j))))
    ∙ append-nil (filter (λ s. not (is_among [] s)) stores) ∙ all_stay stores

stays_from : (lines : List Line) (x : ℕ) (stores : List ℕ) (ts : List Top) → excluded lines ≡ [] → included lines ≡ [] →
    listed_from lines x stores ts ≡ stores
stays_from lines x stores [] none_left none_came = refl
stays_from lines x stores (t ∷ ts) none_left none_came =
    ap (λ ns. listed_from lines x ns ts) (stays_after lines x stores t none_left none_came) ∙ stays_from lines x stores ts none_left none_came

pub listed_plain : (header : Header) (lines : List Line) (x : ℕ) → excluded lines ≡ [] → included lines ≡ [] →
    listed header lines x ≡ stores_of_line (object_line header x)
listed_plain header lines x none_left none_came =
    stays_from lines x (stores_of_line (object_line header x)) (serial_tops lines) none_left none_came
