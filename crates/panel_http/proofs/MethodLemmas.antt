-- A method that has routes is a token, and short enough to take no memory.
use Rattle.std.proofs.Common.{◌≡◌, ◌≤◌, Bool, true, false, length, codes, refl, subst, sym, arith, None}
use Rattle.std.specs.List.{list_all}
use Rattle.std.specs.Str.{bytes_eq}
use Rattle.std.specs.Bool.{IsTrue}
use Rattle.std.proofs.lemmas.Bool.Decides.{Decides-by_and}
use Rattle.std.proofs.lemmas.Slice.Eq.{bytes_eq-Decides}
use Rattle.http.specs.Token.{AllPass, IsToken, is_token_byte}
use Rattle.panel_http.specs.Routes.{route_of}
use Rattle.points.specs.Texts.{Text}

token-from_test : (bytes : Text) → list_all is_token_byte bytes ≡ true → AllPass is_token_byte bytes
token-from_test bytes =
    (Decides-by_and is_token_byte (λ b. IsTrue (is_token_byte b)) (list_all is_token_byte) (λ b. (λ h. h, λ h. h)) refl (λ _ _. refl) bytes).0

post_token : IsToken (codes "POST")
unfolding is_token_byte
post_token = (omega arith, token-from_test (codes "POST") refl)

get_token : IsToken (codes "GET")
unfolding is_token_byte
get_token = (omega arith, token-from_test (codes "GET") refl)

-- a method that is another than each short token has no route
pub no_route-of_long : (method target : Text) → (IsToken method → length method ≤ 15 → ⊥) → route_of method target ≡ None
no_route-of_long method target other = by (bytes_eq method (codes "POST")) (bytes_eq method (codes "GET")) refl refl
  where
    refute : (short : Text) → IsToken short → length short ≤ 15 → bytes_eq method short ≡ true → ⊥
    refute short token fits is =
        let same : short ≡ method = sym ((bytes_eq-Decides method short).0 is) in
        other (subst IsToken same token) (subst (λ (m : Text). length m ≤ 15) same fits)

    by : (post get : Bool) → bytes_eq method (codes "POST") ≡ post → bytes_eq method (codes "GET") ≡ get → route_of method target ≡ None
    by true get is_post is_get = absurd (refute (codes "POST") post_token (omega arith) is_post)
    by false true is_post is_get = absurd (refute (codes "GET") get_token (omega arith) is_get)
    by false false is_post is_get = rw (is_post, is_get) refl
