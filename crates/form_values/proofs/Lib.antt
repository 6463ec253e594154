mod Operations
