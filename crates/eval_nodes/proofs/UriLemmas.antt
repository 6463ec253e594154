-- The characters of uris in the code.
use Rattle.std.proofs.Common.{◌≡◌, [], refl, codes}
use Rattle.std.specs.Str.{chars}
use Rattle.xt_names.proofs.TextLemmas.{ascii_same}
use Rattle.std.proofs.lemmas.Str.{chars-nil}

pub xml_chars : chars (codes "http://www.w3.org/XML/1998/namespace")
    ≡ codes "http://www.w3.org/XML/1998/namespace"
xml_chars = ascii_same (codes "http://www.w3.org/XML/1998/namespace") refl

pub xs_chars : chars (codes "http://www.w3.org/2001/XMLSchema")
    ≡ codes "http://www.w3.org/2001/XMLSchema"
xs_chars = ascii_same (codes "http://www.w3.org/2001/XMLSchema") refl

pub xsi_chars : chars (codes "http://www.w3.org/2001/XMLSchema-instance")
    ≡ codes "http://www.w3.org/2001/XMLSchema-instance"
xsi_chars = ascii_same (codes "http://www.w3.org/2001/XMLSchema-instance") refl

pub fn_chars : chars (codes "http://www.w3.org/2005/xpath-functions")
    ≡ codes "http://www.w3.org/2005/xpath-functions"
fn_chars = ascii_same (codes "http://www.w3.org/2005/xpath-functions") refl

pub local_chars : chars (codes "http://www.w3.org/2005/xquery-local-functions")
    ≡ codes "http://www.w3.org/2005/xquery-local-functions"
local_chars = ascii_same (codes "http://www.w3.org/2005/xquery-local-functions") refl

pub space_chars : chars (codes " ") ≡ codes " "
space_chars = ascii_same (codes " ") refl

pub no_chars : chars [] ≡ []
no_chars = chars-nil
