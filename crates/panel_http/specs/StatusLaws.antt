-- What the first line of a response has after its version, at each status that the desk gives.
use Rattle.std.specs.Prelude.{◌≡◌, codes}
use Rattle.http.specs.StatusCode.{status_text}

pub record EachStatusHasItsPhrase : Type 0 where
  pub ok : status_text 200 ≡ codes "200 OK"
  pub accepted : status_text 202 ≡ codes "202 Accepted"
  pub bad_request : status_text 400 ≡ codes "400 Bad Request"
  pub not_found : status_text 404 ≡ codes "404 Not Found"
  pub conflict : status_text 409 ≡ codes "409 Conflict"
  pub gone : status_text 410 ≡ codes "410 Gone"
  pub unprocessable : status_text 422 ≡ codes "422 Unprocessable Entity"
  pub store_failed : status_text 500 ≡ codes "500 Internal Server Error"
  pub no_memory : status_text 503 ≡ codes "503 Service Unavailable"
