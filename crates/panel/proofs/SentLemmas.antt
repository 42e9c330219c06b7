-- What is named as due was sent by the run, and stays so.
use Rattle.std.proofs.Common.{◌≡◌, ◌⊎◌, ℕ, ◌+◌, ◌<◌, Bool, true, false, cond, List, ◌∷◌, Option, Some, None, map, min, pos, []}
use Rattle.std.proofs.Common.{negsuc, zero, suc, length, slice_index_or}
use Rattle.std.proofs.Common.{refl, ◌∙◌, subst, arith, inl, inr}
use Rattle.std.specs.List.{filter}
use Rattle.std.specs.Str.{bytes_eq}
use Rattle.std.proofs.lemmas.Bool.Decides.{nat_tests}
use Rattle.points.specs.declared.content.Content.{Content}
use Rattle.points.specs.Texts.{Text}
use Rattle.window.specs.declared.numbered_content.NumberedContent.{NumberedContent}
use Rattle.window.specs.Taken.{content_in}
use Rattle.deliveries.specs.declared.delivery.Delivery.{Delivery}
use Rattle.deliveries.specs.declared.delivery.Delivery.TheVariants as delivery_of
use Rattle.deliveries.specs.Accepted.{panel_of}
use Rattle.panel.specs.Life.{Life, RiseFrom, WasSent, WereSent}
use Rattle.panel.proofs.ContentLemmas.{content_in-apart, content_in-here, content_in-least}
use Rattle.panel.proofs.RestLemmas.{sent-stays}
use Rattle.panel.specs.Due.{command_of, due, is_kept, named_by}
use Rattle.panel.specs.Run.{Run, Began, Pressed, Kept, Heard, GaveUp, first_number, given_up, in_flight, kept_below, life}
use Rattle.panel.specs.Run.{next_number, reach, skip}
use Rattle.panel.specs.Upheld.{IsEarlier, NamedIsSent, SentStaysSent, WasNamed}
use Rattle.panel.proofs.EntryLemmas.{Between-rise}
use Rattle.panel.proofs.RunLemmas.{goes-gave_up, goes-heard, goes-kept, goes-pressed, in_flight-between, in_flight-pressed}
use Rattle.panel.proofs.RunLemmas.{is-kept, skip-within, within-less}

-- commands of entries that were pressed
commands-sent : (run : Run) (panel : Text) (least : ℕ) (entries : List NumberedContent) → RiseFrom least entries
    → ((number : ℕ) (content : Content) → content_in entries number ≡ Some content → content_in (in_flight run) number ≡ Some content)
    → WereSent (life run) panel (map (command_of panel) (filter (is_kept (kept_below run)) entries))
commands-sent run panel least [] rise flying = tt
commands-sent run panel least (entry ∷ entries) rise flying =
    by (is_kept (kept_below run) entry) refl (commands-sent run panel (entry.number + 1) entries rise.1 rest)
  where
    rest : (number : ℕ) (content : Content) → content_in entries number ≡ Some content → content_in (in_flight run) number ≡ Some content
    rest number content found =
        let high = content_in-least (entry.number + 1) number content entries rise.1 found in
        flying number content (content_in-apart entry entries number (λ is. omega (arith, is, high)) ∙ found)

    by : (named : Bool) → is_kept (kept_below run) entry ≡ named
        → WereSent (life run) panel (map (command_of panel) (filter (is_kept (kept_below run)) entries))
        → WereSent (life run) panel (map (command_of panel) (cond named (entry ∷ filter (is_kept (kept_below run)) entries)
        (filter (is_kept (kept_below run)) entries)))
    by true is more =
        let low : entry.number < kept_below run = grind (arith, nat_tests) in
        let was = in_flight-pressed run entry.number entry.content
        (flying entry.number entry.content (content_in-here entry entries entry.number refl)) in
        (λ here. inr (is-kept run entry.number entry.content (record { low = low; was_pressed = was })), more)
    by false is more = more

named-sent_by : (panel : Text) (run : Run) (upto : Option ℕ) → skip run ≡ upto
    → WereSent (life run) panel (named_by panel (kept_below run) upto (reach run) (in_flight run))
named-sent_by panel run None is =
    commands-sent run panel (first_number run) (in_flight run)
    (Between-rise (first_number run) (next_number run) (in_flight run) (in_flight-between run)) (λ number content found. found)
named-sent_by panel run (Some upto) is =
    let within = within-less (first_number run ∷ given_up run) (min upto (reach run)) upto (omega arith) (skip-within run upto is) in
    (λ here. within, tt)

pub due-sent : (panel : Text) (run : Run) → WereSent (life run) panel (due panel run)
due-sent panel run = named-sent_by panel run (skip run) refl

-- ---- a run goes on

same-sent : (panel : Text) (earlier run : Run) (ds : List Delivery) → earlier ≡ run → WereSent (life earlier) panel ds
    → WereSent (life run) panel ds
same-sent panel earlier run ds same sent = subst (λ (one : Run). WereSent (life one) panel ds) same sent

pub sent-stays-by_run : SentStaysSent
sent-stays-by_run panel earlier (Began first) ds is sent = same-sent panel earlier (Began first) ds is sent
sent-stays-by_run panel earlier (Pressed run content) ds (inl is) sent = same-sent panel earlier (Pressed run content) ds is sent
sent-stays-by_run panel earlier (Pressed run content) ds (inr more) sent =
    sent-stays (life run) (life (Pressed run content)) panel ds (goes-pressed run content) (sent-stays-by_run panel earlier run ds more
    sent)
sent-stays-by_run panel earlier (Kept run number) ds (inl is) sent = same-sent panel earlier (Kept run number) ds is sent
sent-stays-by_run panel earlier (Kept run number) ds (inr more) sent =
    sent-stays (life run) (life (Kept run number)) panel ds (goes-kept run number) (sent-stays-by_run panel earlier run ds more sent)
sent-stays-by_run panel earlier (Heard run reply) ds (inl is) sent = same-sent panel earlier (Heard run reply) ds is sent
sent-stays-by_run panel earlier (Heard run reply) ds (inr more) sent =
    sent-stays (life run) (life (Heard run reply)) panel ds (goes-heard run reply) (sent-stays-by_run panel earlier run ds more sent)
sent-stays-by_run panel earlier (GaveUp run number) ds (inl is) sent = same-sent panel earlier (GaveUp run number) ds is sent
sent-stays-by_run panel earlier (GaveUp run number) ds (inr more) sent =
    sent-stays (life run) (life (GaveUp run number)) panel ds (goes-gave_up run number) (sent-stays-by_run panel earlier run ds more sent)

-- ---- what was named

sent-at : (one : Life) (panel : Text) (named : List Delivery) (place : ℕ) (d : Delivery) → WereSent one panel named → place < length named
    → WasSent one panel (slice_index_or named place d)
sent-at one panel [] place d sent below = absurd (omega (arith, below))
sent-at one panel (x ∷ named) zero d sent below = sent.0
sent-at one panel (x ∷ named) (suc place) d sent below = sent-at one panel named place d sent.1 (omega (arith, below))

named-sent : (panel : Text) (run : Run) (d : Delivery) → WasNamed panel run d → WasSent (life run) panel d
named-sent panel run d was =
    let at = was.named in
    let here : WasSent (life was.earlier) panel d =
    subst (WasSent (life was.earlier) panel) at.2 (sent-at (life was.earlier) panel (due panel was.earlier) at.0 d (due-sent panel
    was.earlier) at.1) in
    (sent-stays-by_run panel was.earlier run (d ∷ []) was.beginning (here, tt)).0

earlier-sent : (panel : Text) (run : Run) (d : Delivery) → IsEarlier (first_number run) d → WasSent (life run) panel d
earlier-sent panel run (delivery_of.Command name (pos number) content) is = λ here. inl is
earlier-sent panel run (delivery_of.Command name (negsuc number) content) is = absurd is
earlier-sent panel run (delivery_of.Skip name (pos upto)) is = λ here. inl is
earlier-sent panel run (delivery_of.Skip name (negsuc upto)) is = absurd is
earlier-sent panel run (delivery_of.Tick moment) is = absurd is
earlier-sent panel run (delivery_of.Import rows) is = absurd is

-- a delivery of another panel is any
others-sent : (one : Life) (panel : Text) (d : Delivery) → (bytes_eq (panel_of d) panel ≡ true → WasSent one panel d) → WasSent one panel d
others-sent one panel (delivery_of.Command name number content) sent = λ here. sent here here
others-sent one panel (delivery_of.Skip name upto) sent = λ here. sent here here
others-sent one panel (delivery_of.Tick moment) sent = tt
others-sent one panel (delivery_of.Import rows) sent = tt

either-sent : (panel : Text) (run : Run) (d : Delivery) → WasNamed panel run d ⊎ IsEarlier (first_number run) d → WasSent (life run) panel d
either-sent panel run d (inl named) = named-sent panel run d named
either-sent panel run d (inr earlier) = earlier-sent panel run d earlier

pub named-is-sent : NamedIsSent
named-is-sent panel run [] named = tt
named-is-sent panel run (d ∷ ds) named =
    (others-sent (life run) panel d (λ here. either-sent panel run d (named.0 here)), named-is-sent panel run ds named.1)
