-- Behind the text that was there are the places before this one.
use Rattle.std.proofs.Common.{◌≡◌, ◌++◌, string_bytes}
use Rattle.panel_http.proofs.PlaceLemmas.{others_before}
use Rattle.panel_http.proofs.point_text.push_others.Given as goal

abbrev pub invariant-loop-priority : goal.invariant-loop-priority
invariant-loop-priority l = string_bytes l.text ≡ string_bytes l.initial.text ++ others_before l.places l.priority
