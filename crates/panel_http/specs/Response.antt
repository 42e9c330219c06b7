-- The text of a response: its head, with CRLF after each line, and its body.
use Rattle.std.specs.Prelude.{◌≡◌, ℕ, List, ◌++◌, codes, length, string_bytes}
use Rattle.std.specs.Fmt.{decimal}
use Rattle.http.specs.StatusCode.{status_text}
use Rattle.panel_http.specs.declared.whole_response.ContentType.{ContentType}
use Rattle.panel_http.specs.declared.whole_response.ContentType.TheVariants.{Json, PlainText}
use Rattle.panel_http.specs.declared.whole_response.Response.{Response}

-- a status, as its number (RFC 9110, clause 15)
abbrev pub Status : Type 0
Status = ℕ

-- what a response says: its status, and its body with the type of it
pub record Said : Type 0 where
  pub status : Status
  pub content : ContentType
  pub body : List ℕ

abbrev pub json : Status → List ℕ → Said
json code body = record { status = code; content = Json; body = body }

abbrev pub plain : Status → List ℕ → Said
plain code body = record { status = code; content = PlainText; body = body }

abbrev pub content_text : ContentType → List ℕ
content_text Json = codes "application/json"
content_text PlainText = codes "text/plain"

-- the first line has the number of the status and its phrase, as `http` tells them; no line end follows the body
unfoldable pub response_text : Said → List ℕ
response_text said = codes "HTTP/1.1 " ++ (status_text said.status
    ++ (codes "\r\nContent-Type: " ++ (content_text said.content
    ++ (codes "\r\nContent-Length: " ++ (decimal (length said.body)
    ++ (codes "\r\nConnection: close\r\n\r\n" ++ said.body))))))

-- the status and the text of what is said
pub record Says (said : Said) (response : Response) : Type 0 where
  pub status : response.status ≡ said.status
  pub text : string_bytes response.text ≡ response_text said
