-- What a page is appended to, and what it begins with.
use Rattle.std.specs.Prelude.{◌≡◌, ℕ, List, ◌++◌, codes}

-- the old bytes are before the new ones
unfoldable pub StandsBefore : List ℕ → List ℕ → Type 0
StandsBefore old new = (more : List ℕ) × (new ≡ old ++ more)

-- The beginning of a page. Its policy has a browser load nothing from elsewhere, whatever the page says after it (Content
-- Security Policy, The <meta> element).
abbrev pub page_begin : List ℕ
page_begin =
    codes "<!doctype html>\n<html lang=\"en\">\n<head>\n<meta charset=\"utf-8\">\n" ++
    codes "<meta name=\"viewport\" content=\"width=device-width, initial-scale=1\">\n" ++
    codes "<meta http-equiv=\"Content-Security-Policy\"\n content=\"default-src 'none'; base-uri 'none'; form-action 'none';\n" ++
    codes " style-src 'unsafe-inline'; script-src 'unsafe-inline'\">\n<title>"
