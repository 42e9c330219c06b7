-- The values of a name among headers.
use Rattle.std.proofs.Common.{ℕ, List, map}
use Rattle.httparse.specs.Spans.{header_bytes}
use Rattle.httparse.specs.declared.spans.HeaderSpan.{HeaderSpan}
use Rattle.panel_http.specs.BodyLength.{values_of}
use Rattle.points.specs.Texts.{Text}

abbrev pub values_at : List ℕ → Text → List HeaderSpan → List Text
values_at buffer name headers = values_of name (map (header_bytes buffer) headers)
