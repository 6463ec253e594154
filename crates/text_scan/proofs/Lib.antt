mod ScanLemmas
